-- Machines that agree are machines that look alike, so that they answer alike; and the view of a sound machine is right for a
-- restore.
use mathlib.Core.Path.{◌≡◌, refl, sym, ap, ◌∙◌, fun_ext}
use mathlib.Core.List.{List}
use Prim.Native.Nat.{ℕ, ◌+◌, ◌*◌, ◌/◌, ◌≤◌}
use native.Mathlib.Decide.{ℕ_discrete}
use native.Mathlib.Omega.{arith}
use lib.Bits.{bit_and}
use lib.ListN.{length, get_or, get_or-eq_default}
use lib.Dec.{eqb}
use borrow.Author.Tests.{eq-eqb}
use Rattle.bits.specs.Rounding.{page_size}
use Rattle.program.specs.Program.{run, perform}
use Rattle.memory.specs.Pages.{dirty}
use Rattle.memory.specs.Storage.{absent, slot_in, byte_in}
use Rattle.memory.specs.View.{Roomy}
use Rattle.memory.proofs.StoreCases.{cases}
use Rattle.machine.specs.Fresh.{LentMachine, record_words}
use Rattle.tracking.specs.declared.records.Tracking.{Tracking}
use Rattle.tracking.specs.declared.records.Tracking.TheVariants.{Untracked, Tracked}
use Rattle.tracking.specs.Records.{record_of, record_at}
use Rattle.tracking.specs.Operations.{masked, entry_in, MachineOp, machine_does, top}
use Rattle.snapshot.specs.Runs.{flag_at}
use Rattle.handover.specs.View.{view, MachineView, view_machine, FormedMachine}
use Rattle.handover.specs.Reached.{Reached}
use Rattle.handover.specs.Sound.{Sound}
use Rattle.handover.specs.Hosts.{Agree, AnswerAlike}
use Rattle.handover.proofs.Seen.{mask_clean, mask_dirty, mask_twice, programs_alike, equal_calls}
use Rattle.handover.proofs.Reaching.{reached-formed, reached-whole}
use Rattle.handover.proofs.InTypes.{InTypes, reached_in_types}
use Rattle.handover.proofs.Restoring.{Right}

-- ---- to agree is to look alike

-- the record of a dirty page is not seen
agreed_entry : (m n : LentMachine) → Agree m n → (p : ℕ) → entry_in n.0.0.flags n.0.1 p ≡ entry_in m.0.0.flags m.0.1 p
agreed_entry m n a p =
    ap (λ (f : ℕ). masked f (record_at n.0.1 p)) (a.flags p)
    ∙ elim (ℕ_discrete (bit_and (flag_at m.0.0.flags p) dirty) 0) [
      | yes e ↦ ap (masked (flag_at m.0.0.flags p)) (a.entries p e)
      | no d ↦ mask_dirty (flag_at m.0.0.flags p) _ d ∙ sym (mask_dirty (flag_at m.0.0.flags p) _ d)
    ]

pub agree-seen : (m n : LentMachine) → Agree m n → view_machine n ≡ view_machine m
agree-seen m n a = λ i. (
  record {
    memory =
        record {
          byte = fun_ext a.bytes i;
          flag = fun_ext a.flags i;
          size = a.size i;
          reservation = a.reservation i;
        };
    entry = fun_ext (agreed_entry m n a) i;
  },
  a.numbers i,
)

pub seen-agree : (m n : LentMachine) → view_machine n ≡ view_machine m → Agree m n
seen-agree m n e =
    let flags : (p : ℕ) → flag_at n.0.0.flags p ≡ flag_at m.0.0.flags p = λ p.
    ap (λ (v : MachineView). v.0.memory.flag p) e in
    record {
      bytes = λ a. ap (λ (v : MachineView). v.0.memory.byte a) e;
      flags = flags;
      numbers = ap (λ (v : MachineView). v.1) e;
      reservation = ap (λ (v : MachineView). v.0.memory.reservation) e;
      size = ap (λ (v : MachineView). v.0.memory.size) e;
      entries = λ p c.
          sym (mask_clean (flag_at n.0.0.flags p) _ (ap (λ (f : ℕ). bit_and f dirty) (flags p) ∙ c))
          ∙ ap (λ (v : MachineView). v.0.entry p) e
          ∙ mask_clean (flag_at m.0.0.flags p) _ c;
    }

-- MACHINES THAT AGREE ANSWER ALIKE
pub further : (m n : LentMachine) → Reached m → Reached n → Roomy m.0.0 → Roomy n.0.0 → Agree m n → AnswerAlike m n
further m n rm rn room-m room-n a = λ calls careful.
    (equal_calls calls careful n m (reached-whole n rn room-n) (reached-whole m rm room-m) (agree-seen m n a)).0

-- and reply alike to one operation, which is what a public leaf that no call of the list stands for comes to
pub operation_alike : (o : MachineOp) (m n : LentMachine) → Reached m → Reached n → Roomy m.0.0 → Roomy n.0.0 → Agree m n
    → ((machine_does o n).0 ≡ (machine_does o m).0) × Agree (machine_does o m).1 (machine_does o n).1
unfolding run
operation_alike o m n rm rn room-m room-n a =
    let e = programs_alike (perform o) n m (reached-whole n rn room-n) (reached-whole m rm room-m) (agree-seen m n a) in
    (e.0, seen-agree _ _ e.1)

-- ---- past the machine

zeros-untracked : (flag : ℕ) (records : List ℕ) (p : ℕ) → length records ≤ p * record_words + 2
    → masked flag (record_at records p) ≡ Untracked
unfolding masked record_of
zeros-untracked flag records p h =
    let z : get_or records (p * record_words + 2) 0 ≡ 0 = get_or-eq_default {A = ℕ} records 0 h in
    rw z (cases (λ (t : Tracking). t ≡ Untracked) (eqb (bit_and flag dirty) 0) _ _ (λ e. refl) (λ e. refl))

past-slots : (slots area : List ℕ) (a : ℕ) → length slots ≤ a / page_size → byte_in slots area a ≡ 0
unfolding byte_in
past-slots slots area a h =
    rw (eq-eqb (slot_in slots (a / page_size)) absent (get_or-eq_default {A = ℕ} slots absent h))

-- ---- THE VIEW OF A SOUND MACHINE

entry-offset : (m : LentMachine) → InTypes m → (q id offset flag : ℕ) → (view m.0).entry q ≡ Tracked id offset flag
    → offset + page_size ≤ top
entry-offset m w q id offset flag e = elim (ℕ_discrete (bit_and (flag_at m.0.0.flags q) dirty) 0) [
  | yes c ↦ w.offsets q id offset flag (sym (mask_clean _ _ c) ∙ e)
  | no d ↦
      let u : Untracked ≡ Tracked id offset flag = sym (mask_dirty (flag_at m.0.0.flags q) (record_at m.0.1 q) d) ∙ e in
      absurd (let z : ◌≡◌ {A = ℕ} 0 1 = cc in omega arith)
]

pub view_right : (directory sources : List ℕ) (m : LentMachine) → Sound directory sources m → Right directory sources (view m.0)
view_right directory sources m s =
    let w : FormedMachine m = reached-formed m s.reached in
    let t : InTypes m = reached_in_types m s.reached in
    let f = w.memory.fit in
    record {
      whole = f.whole;
      small = f.small;
      flags = t.typed.flag_bytes;
      dark = λ q. mask_twice (flag_at m.0.0.flags q) (flag_at m.0.0.flags q) (record_at m.0.1 q) (λ e. e);
      offsets = entry-offset m t;
      pages = s.pages;
      past_flags = λ q h. get_or-eq_default {A = ℕ} m.0.0.flags 0 (omega (arith, f.flags_are));
      past_entries = λ q h. zeros-untracked (flag_at m.0.0.flags q) m.0.1 q (omega (arith, f.flags_are, w.records_are));
      past_bytes = λ a h. past-slots m.0.0.slots m.0.0.area a (omega (arith, f.slots_are));
    }
