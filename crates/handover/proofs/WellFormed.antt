-- Machines as our calls make them: a fresh machine is well formed, and every operation, every program and every call keeps it so.
-- No call changes a length or the memory's size.
use mathlib.Core.Path.{◌≡◌, refl, ◌∙◌}
use mathlib.Core.Bool.{true}
use mathlib.Core.List.{List, [], ◌∷◌}
use mathlib.Core.Logic.{◌≢◌}
use Prim.Native.Nat.{ℕ, ◌+◌, ◌*◌, ◌/◌, ◌≤◌}
use native.Mathlib.Omega.{arith}
use lib.ListN.{length, length-set}
use lib.Dec.{ltb, leb}
use borrow.Author.Tests.{eq-eqb, eqb-true}
use Rattle.bits.specs.Rounding.{page_size}
use Rattle.words.specs.Bytes.{filled}
use Rattle.words.proofs.Filled.{length-filled}
use Rattle.program.specs.Program.{run}
use Rattle.program.specs.Layers.{low, own}
use Rattle.program.proofs.Keeps.{kept}
use Rattle.memory.specs.Storage.{State, state_of, absent, fits_lengths, fresh_memory, no_memory}
use Rattle.memory.specs.Storage as storage
use Rattle.memory.specs.View as memory
use Rattle.memory.proofs.Lengths.{fits-yes, fits-are}
use Rattle.memory.proofs.StoreCases.{cases}
use Rattle.memory.proofs.WellFormed as memory-laws
use Rattle.machine.specs.Numbers.{fresh_numbers, no_numbers}
use Rattle.machine.specs.Fresh.{Tracked, LentMachine, record_words, records_fit, fresh_over, fresh}
use Rattle.tracking.specs.declared.records.Tracking.{Tracking}
use Rattle.tracking.specs.declared.records.Tracking.TheVariants as tracking
use Rattle.tracking.specs.Records.{with_record}
use Rattle.tracking.specs.Operations.{lengths?, entry?, track!, drop!, drop_all!, AnyOp, MachineOp, fits_all, fits_tracked, marked, clean, track_page, drop_page, does, machine_does, Call, MachineCall, top}
use Rattle.handover.specs.View.{WellFormed, Whole, FormedMachine, WholeMachine}
use Rattle.recordfile.specs.Snapshots.{Each}
use Rattle.handover.specs.Calls.{Named, program, Given, named, clear_flag_call, fresh_call, clear_flag, answer, Later, leaves}

-- ---- lengths

-- t has the lengths of m, and its memory the size
pub record SameLengths (m t : Tracked) : Type 0 where
  pub memory : memory-laws.SameLengths m.0 t.0
  pub records : length t.1 ≡ length m.1

pub lengths-same : (m : Tracked) → SameLengths m m
lengths-same m = record { memory = memory-laws.lengths-same m.0; records = refl }

pub lengths_then : (m t u : Tracked) → SameLengths m t → SameLengths t u → SameLengths m u
lengths_then m t u a b =
    record { memory = memory-laws.lengths_then _ _ _ a.memory b.memory; records = b.records ∙ a.records }

-- a record written
pub record_length : (records : List ℕ) (p : ℕ) (t : Tracking) → length (with_record records p t) ≡ length records
record_length records p tracking.Untracked = simp length-set
record_length records p (tracking.Tracked id offset flag) = simp length-set

pub marked-lengths : (m : Tracked) (p f : ℕ) (t : Tracking) → SameLengths m (marked m p f t)
marked-lengths m p f t =
    record {
      memory = record { size = refl; slots = refl; flags = length-set m.0.flags p f; area = refl };
      records = record_length m.1 p t;
    }

-- what holds of a machine left as it is and of one with a page marked, holds after a page is tracked, and after one is dropped
track_cases : (P : Tracked → Type 0) (m : Tracked) (p id offset : ℕ) → P m → ((f : ℕ) (t : Tracking) → P (marked m p f t))
    → P (track_page m p id offset).1
unfolding track_page
track_cases P m p id offset w k =
    cases Q (ltb p (length m.0.flags)) _ _
    (λ e.
    cases Q (leb (offset + page_size) top) _ _ (λ e. k _ (tracking.Tracked id offset (clean m.0.flags p))) (λ e. w))
    (λ e. w)
  where
    Q : ℕ × Tracked → Type 0
    Q r = P r.1

drop_cases : (P : Tracked → Type 0) (m : Tracked) (p : ℕ) → P m → ((f : ℕ) (t : Tracking) → P (marked m p f t))
    → P (drop_page m p).1
unfolding drop_page
drop_cases P m p w k =
    cases (λ (r : ℕ × Tracked). P r.1) (ltb p (length m.0.flags)) _ _ (λ e. k _ tracking.Untracked) (λ e. w)

-- every record dropped
dropped_lengths : (m : Tracked) → SameLengths m (m.0, filled (length m.1) 0)
dropped_lengths m = record { memory = memory-laws.lengths-same m.0; records = length-filled (length m.1) 0 }

pub op_lengths : (o : AnyOp) (m : Tracked) → SameLengths m (does o m).1
op_lengths (low o) m = record { memory = memory-laws.op_lengths o m.0; records = refl }
op_lengths (own lengths?) m = lengths-same m
op_lengths (own (entry? p)) m = lengths-same m
op_lengths (own (track! p id offset)) m = track_cases (SameLengths m) m p id offset (lengths-same m) (marked-lengths m p)
op_lengths (own (drop! p)) m = drop_cases (SameLengths m) m p (lengths-same m) (marked-lengths m p)
op_lengths (own drop_all!) m = dropped_lengths m

pub program-lengths : {A : Type 0} (g : Call A) (m : Tracked) → SameLengths m (run does g m).1
program-lengths g m = kept does (SameLengths m) (λ o t e. lengths_then m t _ e (op_lengths o t)) g m (lengths-same m)

pub clear_lengths : (p f : ℕ) (m : Tracked) → SameLengths m (clear_flag p f m).1
clear_lengths p f m = record { memory = memory-laws.clear_lengths p f m.0; records = refl }

-- with the machine's numbers
pub machine_op_lengths : (o : MachineOp) (m : LentMachine) → SameLengths m.0 (machine_does o m).1.0
machine_op_lengths (low o) m = op_lengths o m.0
machine_op_lengths (own o) m = lengths-same m.0

pub machine-lengths : {A : Type 0} (g : MachineCall A) (m : LentMachine) → SameLengths m.0 (run machine_does g m).1.0
machine-lengths g m =
    kept machine_does (λ n. SameLengths m.0 n.0) (λ o n e. lengths_then _ _ _ e (machine_op_lengths o n)) g m
    (lengths-same m.0)

pub given_lengths : (g : Given) → Later g → (m : LentMachine) → SameLengths m.0 (answer g m).1.0
given_lengths (named c) l m = machine-lengths (program c) m
given_lengths (clear_flag_call p f) l m = clear_lengths p f m.0
given_lengths (fresh_call size version maximum) l m = absurd l

pub calls-lengths : (gs : List Given) → Each Later gs → (m : LentMachine) → SameLengths m.0 (leaves gs m).0
unfolding leaves Each
calls-lengths [] l m = lengths-same m.0
calls-lengths (g ∷ gs) l m = lengths_then _ _ _ (given_lengths g l.0 m) (calls-lengths gs l.1 (answer g m).1)

-- ---- every operation

records-same : (m t : Tracked) → SameLengths m t → length m.1 ≡ record_words * length m.0.flags
    → length t.1 ≡ record_words * length t.0.flags
records-same m t e h = omega (arith, e.records, e.memory.flags)

formed-same : (m t : Tracked) → SameLengths m t → memory.WellFormed t.0 → WellFormed m → WellFormed t
formed-same m t e f w = record { memory = f; records_are = records-same m t e w.records_are }

whole_same : (m t : Tracked) → SameLengths m t → memory.Whole t.0 → Whole m → Whole t
whole_same m t e f w = record { memory = f; records_are = records-same m t e w.records_are }

pub whole-formed : (m : Tracked) → Whole m → WellFormed m
whole-formed m w = record { memory = w.memory.formed; records_are = w.records_are }

-- the lengths are right
pub lengths_reply : (m : Tracked) → WellFormed m → fits_tracked m ≡ true
unfolding fits_all records_fit
lengths_reply m w =
    rw (fits-yes _ _ _ _ w.memory.fit, eq-eqb (length m.1) (record_words * length m.0.flags) w.records_are)

pub marked-formed : (m : Tracked) → WellFormed m → (p f : ℕ) (t : Tracking) → WellFormed (marked m p f t)
marked-formed m w p f t = formed-same m _ (marked-lengths m p f t) (memory-laws.flag-formed m.0 p f w.memory) w

pub marked-whole : (m : Tracked) → Whole m → (p f : ℕ) (t : Tracking) → Whole (marked m p f t)
marked-whole m w p f t = whole_same m _ (marked-lengths m p f t) (memory-laws.flag-whole m.0 p f w.memory) w

pub op_kept : (o : AnyOp) (m : Tracked) → WellFormed m → WellFormed (does o m).1
op_kept (low o) m w = formed-same m _ (op_lengths (low o) m) (memory-laws.op_kept o m.0 w.memory) w
op_kept (own lengths?) m w = w
op_kept (own (entry? p)) m w = w
op_kept (own (track! p id offset)) m w = track_cases WellFormed m p id offset w (marked-formed m w p)
op_kept (own (drop! p)) m w = drop_cases WellFormed m p w (marked-formed m w p)
op_kept (own drop_all!) m w = formed-same m _ (dropped_lengths m) w.memory w

pub op_whole : (o : AnyOp) (m : Tracked) → Whole m → Whole (does o m).1
op_whole (low o) m w = whole_same m _ (op_lengths (low o) m) (memory-laws.op_whole o m.0 w.memory) w
op_whole (own lengths?) m w = w
op_whole (own (entry? p)) m w = w
op_whole (own (track! p id offset)) m w = track_cases Whole m p id offset w (marked-whole m w p)
op_whole (own (drop! p)) m w = drop_cases Whole m p w (marked-whole m w p)
op_whole (own drop_all!) m w = whole_same m _ (dropped_lengths m) w.memory w

pub machine_op_kept : (o : MachineOp) (m : LentMachine) → FormedMachine m → FormedMachine (machine_does o m).1
machine_op_kept (low o) m w = op_kept o m.0 w
machine_op_kept (own o) m w = w

pub machine_op_whole : (o : MachineOp) (m : LentMachine) → WholeMachine m → WholeMachine (machine_does o m).1
machine_op_whole (low o) m w = op_whole o m.0 w
machine_op_whole (own o) m w = w

-- ---- every program, and every call

pub program-kept : {A : Type 0} (g : Call A) (m : Tracked) → WellFormed m → WellFormed (run does g m).1
program-kept g m w = kept does WellFormed op_kept g m w

pub program-whole : {A : Type 0} (g : Call A) (m : Tracked) → Whole m → Whole (run does g m).1
program-whole g m w = kept does Whole op_whole g m w

pub machine-kept : {A : Type 0} (g : MachineCall A) (m : LentMachine) → FormedMachine m → FormedMachine (run machine_does g m).1
machine-kept g m w = kept machine_does FormedMachine machine_op_kept g m w

pub machine-whole : {A : Type 0} (g : MachineCall A) (m : LentMachine) → WholeMachine m → WholeMachine (run machine_does g m).1
machine-whole g m w = kept machine_does WholeMachine machine_op_whole g m w

pub call_kept : (c : Named) (m : LentMachine) → FormedMachine m → FormedMachine (run machine_does (program c) m).1
call_kept c m w = machine-kept (program c) m w

pub call_whole : (c : Named) (m : LentMachine) → WholeMachine m → WholeMachine (run machine_does (program c) m).1
call_whole c m w = machine-whole (program c) m w

pub clear_kept : (p f : ℕ) (m : Tracked) → WellFormed m → WellFormed (clear_flag p f m).1
clear_kept p f m w = formed-same m _ (clear_lengths p f m) (memory-laws.clear_kept p f m.0 w.memory) w

pub clear_whole : (p f : ℕ) (m : Tracked) → Whole m → Whole (clear_flag p f m).1
clear_whole p f m w = whole_same m _ (clear_lengths p f m) (memory-laws.clear_whole p f m.0 w.memory) w

-- calls in turn, of which none is fresh
pub given_kept : (g : Given) → Later g → (m : LentMachine) → FormedMachine m → FormedMachine (answer g m).1
given_kept (named c) l m w = call_kept c m w
given_kept (clear_flag_call p f) l m w = clear_kept p f m.0 w
given_kept (fresh_call size version maximum) l m w = absurd l

pub given_whole : (g : Given) → Later g → (m : LentMachine) → WholeMachine m → WholeMachine (answer g m).1
given_whole (named c) l m w = call_whole c m w
given_whole (clear_flag_call p f) l m w = clear_whole p f m.0 w
given_whole (fresh_call size version maximum) l m w = absurd l

pub calls-kept : (gs : List Given) → Each Later gs → (m : LentMachine) → FormedMachine m → FormedMachine (leaves gs m)
unfolding leaves Each
calls-kept [] l m w = w
calls-kept (g ∷ gs) l m w = calls-kept gs l.1 _ (given_kept g l.0 m w)

pub calls-whole : (gs : List Given) → Each Later gs → (m : LentMachine) → WholeMachine m → WholeMachine (leaves gs m)
unfolding leaves Each
calls-whole [] l m w = w
calls-whole (g ∷ gs) l m w = calls-whole gs l.1 _ (given_whole g l.0 m w)

-- ---- a fresh machine

module _ (slots flags area records : List ℕ) (size version maximum : ℕ) where
  -- all lengths are right
  abbrev pub FreshFits : Type 0
  FreshFits =
      (records_fit (length records) (size / page_size) ≡ true)
      × (fits_lengths (length slots) (length flags) (length area) (fresh_memory size) ≡ true)

  -- what is left of a memory where they are, and where they are not
  abbrev made : State
  made = state_of (filled (length slots) absent) (filled (length flags) 0) area (fresh_memory size)

  abbrev lent : State
  lent = state_of slots flags area no_memory

  abbrev pub fresh_done : ℕ × LentMachine
  fresh_done = (0, ((made, filled (length records) 0), fresh_numbers version maximum))

  abbrev pub fresh_not : ℕ × LentMachine
  fresh_not = (9, ((lent, records), no_numbers))

  pub fresh-fits : FreshFits → fresh slots flags area records size version maximum ≡ fresh_done
  unfolding fresh fresh_over
  fresh-fits fit = rw (fit.0, memory-laws.fresh-done slots flags area size fit.1)

  fresh_cases : (P : ℕ × LentMachine → Type 0) → (FreshFits → P fresh_done) → P fresh_not
      → P (fresh slots flags area records size version maximum)
  unfolding fresh fresh_over storage.fresh
  fresh_cases P f g =
      cases P (records_fit (length records) (size / page_size)) _ _
      (λ a.
      cases (λ (r : ℕ × State). P (fresh_over r records version maximum))
      (fits_lengths (length slots) (length flags) (length area) (fresh_memory size)) _ _
      (λ b. f (a, b))
      (λ b. g))
      (λ a. g)

  -- where it is refused, nothing is changed and there is no machine
  pub fresh-refused : (fresh slots flags area records size version maximum).0 ≢ 0
      → fresh slots flags area records size version maximum ≡ fresh_not
  fresh-refused = fresh_cases (λ r. r.0 ≢ 0 → r ≡ fresh_not) (λ fit n. absurd (n refl)) (λ n. refl)

  module _ (done : (fresh slots flags area records size version maximum).0 ≡ 0) where
    -- it answers 0 only where the lengths are right
    pub fresh-told : FreshFits
    fresh-told = fresh_cases (λ r. r.0 ≡ 0 → FreshFits) (λ fit e. fit) (λ e. absurd (omega arith)) done

    pub fresh-done : fresh slots flags area records size version maximum ≡ fresh_done
    fresh-done = fresh_cases (λ r. r.0 ≡ 0 → r ≡ fresh_done) (λ fit e. refl) (λ e. absurd (omega arith)) done

    made-records : length (filled (length records) 0) ≡ record_words * length (filled (length flags) 0)
    unfolding records_fit
    made-records =
        let e : length records ≡ record_words * (size / page_size) = eqb-true _ _ fresh-told.0 in
        let f : length flags ≡ size / page_size = (fits-are _ _ _ _ fresh-told.1).flags_are in
        omega (arith, length-filled (length records) 0, length-filled (length flags) 0)

    made-formed : memory.WellFormed made
    made-formed =
        rw (memory-laws.fresh-done slots flags area size fresh-told.1) at
        (memory-laws.fresh-formed slots flags area size fresh-told.1)

    pub fresh-formed : FormedMachine (fresh slots flags area records size version maximum).1
    fresh-formed = rw fresh-done (record { memory = made-formed; records_are = made-records })

    pub fresh-whole : size ≤ length area → WholeMachine (fresh slots flags area records size version maximum).1
    fresh-whole h = rw fresh-done (record { memory = record { formed = made-formed; roomy = h }; records_are = made-records })
