-- No second outcome fits a promise: one law for each form that a promise of this crate has. In each, x is what the definition
-- gives, and two answers, with what they left, that both are x are the same.
use Rattle.std.proofs.Common.{◌≡◌, ℕ, Bool, List, Ok, Err, Result, refl, ap, sym, ◌∙◌}
use Rattle.outcome.specs.Numbers.{Outcome, refusal_number, number_of}
use Rattle.outcome.specs.declared.Refusal.{Refusal}
use Rattle.outcome.proofs.Numbers.{number_once}
use Rattle.memory.specs.declared.Memory.{Memory}
use Rattle.memory.specs.declared.storage.Storage.{Storage}
use Rattle.memory.specs.Storage.{Valued}
use Rattle.memory.specs.Answers.{value_of}
use Rattle.memory.proofs.Once.{never, valued_once}
use Rattle.machine.specs.declared.Machine.{Machine}
use Rattle.machine.specs.declared.Answer.{Answer}
use Rattle.machine.specs.Numbers.{machine_of}
use Rattle.machine.specs.Fresh.{LentMachine, made}

same-refusal : (x y : Refusal) → refusal_number x ≡ refusal_number y → x ≡ y
same-refusal x y e = ap back (number_once (Err x) (Err y) e)
  where
    back : Outcome → Refusal
    back (Ok _) = x
    back (Err z) = z

-- fresh: an answer with the machine
made-once : (r q : Result Machine Refusal) (s t : Storage) (records records₂ : List ℕ) → made r s records ≡ made q t records₂ → r ≡ q
made-once (Ok m) (Ok n) s t records records₂ z =
    ap (λ (y : ℕ × LentMachine). Ok (machine_of y.1.1 y.1.0.0.memory)) z
made-once (Ok m) (Err e) s t records records₂ z = absurd (never e (ap (λ (y : ℕ × LentMachine). y.0) z))
made-once (Err e) (Ok n) s t records records₂ z = absurd (never e (sym (ap (λ (y : ℕ × LentMachine). y.0) z)))
made-once (Err d) (Err e) s t records records₂ z = ap (λ y. Err y) (same-refusal d e (ap (λ (y : ℕ × LentMachine). y.0) z))

-- and four lists
lists_of : (r : Result Machine Refusal) (s : Storage) (records : List ℕ)
    → ((made r s records).1.0.0.slots ≡ s.slots.now) × ((made r s records).1.0.0.flags ≡ s.flags.now)
    × ((made r s records).1.0.0.area ≡ s.area.now) × ((made r s records).1.0.1 ≡ records)
lists_of (Ok m) s records = (refl, refl, refl, refl)
lists_of (Err e) s records = (refl, refl, refl, refl)

pub fresh_once : (r q : Result Machine Refusal) (s t : Storage) (records records₂ : List ℕ) (x : ℕ × LentMachine)
    → made r s records ≡ x → made q t records₂ ≡ x
    → (r ≡ q) × (s.slots.now ≡ t.slots.now) × (s.flags.now ≡ t.flags.now) × (s.area.now ≡ t.area.now) × (records ≡ records₂)
fresh_once r q s t records records₂ x e f =
    let z : made r s records ≡ made q t records₂ = e ∙ sym f in
    let a = lists_of r s records in
    let b = lists_of q t records₂ in (
      made-once r q s t records records₂ z,
      sym a.0 ∙ ap (λ (y : ℕ × LentMachine). y.1.0.0.slots) z ∙ b.0,
      sym a.1 ∙ ap (λ (y : ℕ × LentMachine). y.1.0.0.flags) z ∙ b.1,
      sym a.2 ∙ ap (λ (y : ℕ × LentMachine). y.1.0.0.area) z ∙ b.2,
      sym a.3 ∙ ap (λ (y : ℕ × LentMachine). y.1.0.1) z ∙ b.3,
    )

-- register: an outcome and a value
pub value_once : (r q : Result ℕ Refusal) (x : Valued) → value_of r ≡ x → value_of q ≡ x → r ≡ q
value_once r q x e f = valued_once r q (e ∙ sym f)

-- set_register: an outcome and the machine
pub answer_once : (r q : Answer) (x : ℕ × Machine) → (number_of r.outcome, r.machine) ≡ x → (number_of q.outcome, q.machine) ≡ x
    → r ≡ q
answer_once r q x e f =
    let z : ◌≡◌ {A = ℕ × Machine} (number_of r.outcome, r.machine) (number_of q.outcome, q.machine) = e ∙ sym f in
    let o : r.outcome ≡ q.outcome = number_once r.outcome q.outcome (ap (λ (y : ℕ × Machine). y.0) z) in
    let m : r.machine ≡ q.machine = ap (λ (y : ℕ × Machine). y.1) z in
    λ i. record { outcome = o i; machine = m i }

-- update_pc, commit_pc, set_cycles, set_max_cycles, with_memory
pub machine_once : (r q x : Machine) → r ≡ x → q ≡ x → r ≡ q
machine_once r q x e f = e ∙ sym f

-- pc, version, cycles, max_cycles
pub number_is_once : (r q x : ℕ) → r ≡ x → q ≡ x → r ≡ q
number_is_once r q x e f = e ∙ sym f

-- memory
pub memory_once : (r q x : Memory) → r ≡ x → q ≡ x → r ≡ q
memory_once r q x e f = e ∙ sym f

-- records_fit
pub told_once : (r q x : Bool) → r ≡ x → q ≡ x → r ≡ q
told_once r q x e f = e ∙ sym f

-- registers, and the records that untrack_all leaves
pub list_once : (r q x : List ℕ) → r ≡ x → q ≡ x → r ≡ q
list_once r q x e f = e ∙ sym f
