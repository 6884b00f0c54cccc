-- No second outcome fits a promise: one law for each form that a promise of this crate has. In each, x is what the definition
-- gives, and two answers, with what they left, that both are x are the same.
use Rattle.std.proofs.Common.{◌≡◌, ℕ, Bool, List, Ok, Err, Some, None, Option, Result, sym, refl, ap, ◌∙◌, arith}
use Rattle.outcome.specs.declared.Refusal.{Refusal}
use Rattle.outcome.specs.Numbers.{Outcome, number_of, refusal_number}
use Rattle.outcome.proofs.Numbers.{number_once}
use Rattle.memory.proofs.Once.{never}
use Rattle.machine.specs.Fresh.{Tracked}
use Rattle.tracking.specs.declared.sources.Place.{Place}
use Rattle.tracking.specs.declared.context.Stored as context
use Rattle.tracking.specs.declared.records.PageRecord.{PageRecord}
use Rattle.tracking.specs.declared.records.Tracking.{Tracking}
use Rattle.tracking.specs.Sources.{Data, placed}
use Rattle.tracking.specs.Tracking.{Stored, Recorded}
use Rattle.tracking.specs.Answers.{stored_of, recorded_of}

-- find_data: a place, or none
same_place : (r q : Option Place) → placed r ≡ placed q → r ≡ q
same_place (Some p) (Some q) z = λ i. Some (record { start = (z i).start; count = (z i).count; full = (z i).full })
same_place (Some p) None z = absurd (let n : ◌≡◌ {A = ℕ} 0 6 = ap (λ (d : Data). d.number) z in omega arith)
same_place None (Some q) z = absurd (let n : ◌≡◌ {A = ℕ} 6 0 = ap (λ (d : Data). d.number) z in omega arith)
same_place None None z = refl

pub place_once : (r q : Option Place) (x : Data) → placed r ≡ x → placed q ≡ x → r ≡ q
place_once r q x e f = same_place r q (e ∙ sym f)

-- load_data: a part of the source bytes
pub data_once : (r q x : List ℕ) → r ≡ x → q ≡ x → r ≡ q
data_once r q x e f = e ∙ sym f

-- track_pages, untrack_pages, mark_program: an outcome, and the storage and records with the memory's numbers
pub outcome_once : (r q : Outcome) (s t : Tracked) (x : ℕ × Tracked) → (number_of r, s) ≡ x → (number_of q, t) ≡ x → (r ≡ q) × (s ≡ t)
outcome_once r q s t x e f =
    let z : ◌≡◌ {A = ℕ × Tracked} (number_of r, s) (number_of q, t) = e ∙ sym f in
    (number_once r q (ap (λ (y : ℕ × Tracked). y.0) z), ap (λ (y : ℕ × Tracked). y.1) z)

refused_as : {A : Type 0} (x y : Refusal) → refusal_number x ≡ refusal_number y → ◌≡◌ {A = Result A Refusal} (Err x) (Err y)
refused_as {A} x y e = ap back (number_once (Err x) (Err y) e)
  where
    back : Outcome → Result A Refusal
    back (Ok _) = Err x
    back (Err z) = Err z

-- store_bytes: an answer, and the same
same_stored : (r q : Result context.Stored Refusal) → stored_of r ≡ stored_of q → r ≡ q
same_stored (Ok r) (Ok q) z = λ i. Ok (record { stored = (z i).stored; full = (z i).full })
same_stored (Ok r) (Err e) z = absurd (never e (ap (λ (y : Stored). y.number) z))
same_stored (Err e) (Ok q) z = absurd (never e (sym (ap (λ (y : Stored). y.number) z)))
same_stored (Err d) (Err e) z = refused_as d e (ap (λ (y : Stored). y.number) z)

pub stored_once : (r q : Result context.Stored Refusal) (s t : Tracked) (x : Stored × Tracked)
    → (stored_of r, s) ≡ x → (stored_of q, t) ≡ x → (r ≡ q) × (s ≡ t)
stored_once r q s t x e f =
    let z : ◌≡◌ {A = Stored × Tracked} (stored_of r, s) (stored_of q, t) = e ∙ sym f in
    (same_stored r q (ap (λ (y : Stored × Tracked). y.0) z), ap (λ (y : Stored × Tracked). y.1) z)

-- page_record: a page's record
same_record : (r q : Result PageRecord Refusal) → recorded_of r ≡ recorded_of q → r ≡ q
same_record (Ok r) (Ok q) z = λ i. Ok (record { page = (z i).page; tracking = (z i).tracking })
same_record (Ok r) (Err e) z = absurd (never e (ap (λ (y : Recorded). y.number) z))
same_record (Err e) (Ok q) z = absurd (never e (sym (ap (λ (y : Recorded). y.number) z)))
same_record (Err d) (Err e) z = refused_as d e (ap (λ (y : Recorded). y.number) z)

pub recorded_once : (r q : Result PageRecord Refusal) (s : Tracked) (x : Recorded × Tracked)
    → (recorded_of r, s) ≡ x → (recorded_of q, s) ≡ x → r ≡ q
recorded_once r q s x e f =
    let z : ◌≡◌ {A = Recorded × Tracked} (recorded_of r, s) (recorded_of q, s) = e ∙ sym f in
    same_record r q (ap (λ (y : Recorded × Tracked). y.0) z)

-- whether the lengths fit
pub told_once : (r q x : Bool) → r ≡ x → q ≡ x → r ≡ q
told_once r q x e f = e ∙ sym f

-- entry_at: what is tracked of a page
pub entry_once : (r q x : Tracking) → r ≡ x → q ≡ x → r ≡ q
entry_once r q x e f = e ∙ sym f
