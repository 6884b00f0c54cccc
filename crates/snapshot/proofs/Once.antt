-- No second outcome fits a promise: one law for each form that a promise of this crate's calls has. In each, x is what the
-- definition gives, and two answers, with what they left, that both are x are the same.
use Rattle.std.proofs.Common.{◌≡◌, ℕ, List, Ok, Err, Result, refl, ap, sym, ◌∙◌}
use Rattle.outcome.specs.declared.Refusal.{Refusal}
use Rattle.outcome.specs.Numbers.{Outcome, number_of, refusal_number}
use Rattle.outcome.proofs.Numbers.{number_once}
use Rattle.memory.proofs.Once.{never}
use Rattle.machine.specs.declared.Machine.{Machine}
use Rattle.machine.specs.Numbers.{machine_of}
use Rattle.machine.specs.Fresh.{LentMachine}
use Rattle.snapshot.specs.declared.make.Made as code-made
use Rattle.snapshot.specs.MakeSnapshot.{Made}
use Rattle.snapshot.specs.Answers.{made_of, lent_of}

-- make_snapshot: the number of records and of pages, or a refusal, and both outputs
refused_as : (x y : Refusal) → refusal_number x ≡ refusal_number y → ◌≡◌ {A = Result code-made.Made Refusal} (Err x) (Err y)
refused_as x y e = ap back (number_once (Err x) (Err y) e)
  where
    back : Outcome → Result code-made.Made Refusal
    back (Ok _) = Err x
    back (Err z) = Err z

same_made : (r q : Result code-made.Made Refusal) (file pages file₂ pages₂ : List ℕ) (m : LentMachine)
    → made_of r file pages m ≡ made_of q file₂ pages₂ m → r ≡ q
same_made (Ok r) (Ok q) file pages file₂ pages₂ m z = λ i. Ok (record { records = (z i).0.records; pages = (z i).0.pages })
same_made (Ok r) (Err e) file pages file₂ pages₂ m z = absurd (never e (ap (λ (y : Made × LentMachine). y.0.number) z))
same_made (Err e) (Ok q) file pages file₂ pages₂ m z = absurd (never e (sym (ap (λ (y : Made × LentMachine). y.0.number) z)))
same_made (Err d) (Err e) file pages file₂ pages₂ m z = refused_as d e (ap (λ (y : Made × LentMachine). y.0.number) z)

outputs_of : (r : Result code-made.Made Refusal) (file pages : List ℕ) (m : LentMachine)
    → ((made_of r file pages m).0.file ≡ file) × ((made_of r file pages m).0.body ≡ pages)
outputs_of (Ok r) file pages m = (refl, refl)
outputs_of (Err e) file pages m = (refl, refl)

pub made_once : (r q : Result code-made.Made Refusal) (file pages file₂ pages₂ : List ℕ) (m : LentMachine) (x : Made × LentMachine)
    → made_of r file pages m ≡ x → made_of q file₂ pages₂ m ≡ x → (r ≡ q) × (file ≡ file₂) × (pages ≡ pages₂)
made_once r q file pages file₂ pages₂ m x e f =
    let z : made_of r file pages m ≡ made_of q file₂ pages₂ m = e ∙ sym f in
    let a = outputs_of r file pages m in
    let b = outputs_of q file₂ pages₂ m in (
      same_made r q file pages file₂ pages₂ m z,
      sym a.0 ∙ ap (λ (y : Made × LentMachine). y.0.file) z ∙ b.0,
      sym a.1 ∙ ap (λ (y : Made × LentMachine). y.0.body) z ∙ b.1,
    )

-- resume: an outcome, the machine, and four lists
pub resumed_once : (r q : Outcome) (m n : Machine) (slots flags area records slots₂ flags₂ area₂ records₂ : List ℕ) (x : ℕ × LentMachine)
    → (number_of r, lent_of slots flags area records m) ≡ x → (number_of q, lent_of slots₂ flags₂ area₂ records₂ n) ≡ x
    → (r ≡ q) × (m ≡ n) × (slots ≡ slots₂) × (flags ≡ flags₂) × (area ≡ area₂) × (records ≡ records₂)
resumed_once r q m n slots flags area records slots₂ flags₂ area₂ records₂ x e f =
    let z : ◌≡◌ {A = ℕ × LentMachine} (number_of r, lent_of slots flags area records m) (number_of q, lent_of slots₂ flags₂ area₂ records₂ n) =
    e ∙ sym f in (
      number_once r q (ap (λ (y : ℕ × LentMachine). y.0) z),
      ap (λ (y : ℕ × LentMachine). machine_of y.1.1 y.1.0.0.memory) z,
      ap (λ (y : ℕ × LentMachine). y.1.0.0.slots) z,
      ap (λ (y : ℕ × LentMachine). y.1.0.0.flags) z,
      ap (λ (y : ℕ × LentMachine). y.1.0.0.area) z,
      ap (λ (y : ℕ × LentMachine). y.1.0.1) z,
    )
