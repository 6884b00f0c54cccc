-- No second outcome fits a promise: one law for each form that a promise of this crate has. In each, x is what the definition
-- gives, and two answers, with what they left, that both are x are the same.
use Rattle.std.proofs.Common.{◌≡◌, ℕ, Bool, List, Ok, Err, Result, refl, sym, ap, ◌∙◌, arith, eq-eqb, true, false}
use Rattle.outcome.specs.Numbers.{Outcome, number_of, refusal_number}
use Rattle.outcome.specs.declared.Refusal.{Refusal}
use Rattle.outcome.proofs.Numbers.{number_once}
use Rattle.memory.specs.declared.Memory.{Memory}
use Rattle.memory.specs.declared.Indices.{Indices}
use Rattle.memory.specs.declared.storage.Storage.{Storage}
use Rattle.memory.specs.Pages.{PageIndices}
use Rattle.memory.specs.Storage.{State, Valued}
use Rattle.memory.specs.Sparse.{Output}
use Rattle.memory.specs.Answers.{value_of, indices_of, wrote}
use Rattle.memory.specs.Lent.{seen, made}
use Rattle.memory.proofs.Refused.{refused}

-- the stores, init_pages, fill_page_data: an outcome, the memory's numbers, and three lists
pub answer_once : (r q : Outcome) (s t : Storage) (m n : Memory) (x : ℕ × State) → (number_of r, seen s m) ≡ x → (number_of q, seen t n) ≡ x
    → (r ≡ q) × (m ≡ n) × (s.slots.now ≡ t.slots.now) × (s.flags.now ≡ t.flags.now) × (s.area.now ≡ t.area.now)
answer_once r q s t m n x e f =
    let z : ◌≡◌ {A = ℕ × State} (number_of r, seen s m) (number_of q, seen t n) = e ∙ sym f in (
      number_once r q (ap (λ (y : ℕ × State). y.0) z),
      ap (λ (y : ℕ × State). y.1.memory) z,
      ap (λ (y : ℕ × State). y.1.slots) z,
      ap (λ (y : ℕ × State). y.1.flags) z,
      ap (λ (y : ℕ × State). y.1.area) z,
    )

-- set_flag, clear_flag, set_dirty, and check_permission: an outcome, and what was lent
pub outcome_once : (r q : Outcome) (s t : State) (x : ℕ × State) → (number_of r, s) ≡ x → (number_of q, t) ≡ x → (r ≡ q) × (s ≡ t)
outcome_once r q s t x e f =
    let z : ◌≡◌ {A = ℕ × State} (number_of r, s) (number_of q, t) = e ∙ sym f in
    (number_once r q (ap (λ (y : ℕ × State). y.0) z), ap (λ (y : ℕ × State). y.1) z)

-- a number is no refusal
pub never : (x : Refusal) → 0 ≡ refusal_number x → ⊥
never x e = let y : false ≡ true = refused x ∙ eq-eqb (refusal_number x) 0 (sym e) in let z : ◌≡◌ {A = ℕ} 0 1 = cc in omega arith

pub valued_once : (r q : Result ℕ Refusal) → value_of r ≡ value_of q → r ≡ q
valued_once (Ok v) (Ok w) e = ap (λ (y : Valued). Ok y.value) e
valued_once (Ok v) (Err x) e = absurd (never x (ap (λ (y : Valued). y.number) e))
valued_once (Err x) (Ok w) e = absurd (never x (sym (ap (λ (y : Valued). y.number) e)))
valued_once (Err x) (Err y) e = ap back (number_once (Err x) (Err y) (ap (λ (z : Valued). z.number) e))
  where
    back : Outcome → Result ℕ Refusal
    back (Ok _) = Ok 0
    back (Err z) = Err z

-- fetch_flag, the loads of a number and the execute loads: a value
pub value_once : (r q : Result ℕ Refusal) (s t : State) (x : Valued × State) → (value_of r, s) ≡ x → (value_of q, t) ≡ x → (r ≡ q) × (s ≡ t)
value_once r q s t x e f =
    let z : ◌≡◌ {A = Valued × State} (value_of r, s) (value_of q, t) = e ∙ sym f in
    (valued_once r q (ap (λ (y : Valued × State). y.0) z), ap (λ (y : Valued × State). y.1) z)

-- load_bytes: an outcome and the whole output
pub bytes_once : (r q : Outcome) (out out₂ : List ℕ) (s : State) (x : Output × State)
    → wrote (number_of r) 0 out s ≡ x → wrote (number_of q) 0 out₂ s ≡ x
    → (r ≡ q) × (out ≡ out₂)
bytes_once r q out out₂ s x e f =
    let z : wrote (number_of r) 0 out s ≡ wrote (number_of q) 0 out₂ s = e ∙ sym f in
    (number_once r q (ap (λ (y : Output × State). y.0.number) z), ap (λ (y : Output × State). y.0.bytes) z)

-- load_c_string: a length and the whole output
pub text_once : (r q : Result ℕ Refusal) (out out₂ : List ℕ) (s : State) (x : Output × State)
    → wrote (value_of r).number (value_of r).value out s ≡ x → wrote (value_of q).number (value_of q).value out₂ s ≡ x
    → (r ≡ q) × (out ≡ out₂)
text_once r q out out₂ s x e f =
    let z : wrote (value_of r).number (value_of r).value out s ≡ wrote (value_of q).number (value_of q).value out₂ s = e ∙ sym f in
    let n : (value_of r).number ≡ (value_of q).number = ap (λ (y : Output × State). y.0.number) z in
    let v : (value_of r).value ≡ (value_of q).value = ap (λ (y : Output × State). y.0.value) z in
    (valued_once r q (λ i. record { number = n i; value = v i }), ap (λ (y : Output × State). y.0.bytes) z)

-- get_page_indices: two pages
paged_once : (r q : Result Indices Refusal) → indices_of r ≡ indices_of q → r ≡ q
paged_once (Ok a) (Ok b) e =
    let f : a.first ≡ b.first = ap (λ (y : PageIndices). y.first) e in
    let l : a.last ≡ b.last = ap (λ (y : PageIndices). y.last) e in
    λ i. Ok (record { first = f i; last = l i })
paged_once (Ok a) (Err x) e = absurd (never x (ap (λ (y : PageIndices). y.number) e))
paged_once (Err x) (Ok b) e = absurd (never x (sym (ap (λ (y : PageIndices). y.number) e)))
paged_once (Err x) (Err y) e = ap back (number_once (Err x) (Err y) (ap (λ (z : PageIndices). z.number) e))
  where
    back : Outcome → Result Indices Refusal
    back (Ok _) = Err x
    back (Err z) = Err z

pub indices_once : (r q : Result Indices Refusal) (x : PageIndices) → indices_of r ≡ x → indices_of q ≡ x → r ≡ q
indices_once r q x e f = paged_once r q (e ∙ sym f)

-- fresh: a memory and three lists
fresh_made : (r q : Result Memory Refusal) (s t : Storage) → made r s ≡ made q t → r ≡ q
fresh_made (Ok m) (Ok n) s t z = ap (λ (y : ℕ × State). Ok y.1.memory) z
fresh_made (Ok m) (Err x) s t z = absurd (never x (ap (λ (y : ℕ × State). y.0) z))
fresh_made (Err x) (Ok n) s t z = absurd (never x (sym (ap (λ (y : ℕ × State). y.0) z)))
fresh_made (Err x) (Err y) s t z = ap back (number_once (Err x) (Err y) (ap (λ (y : ℕ × State). y.0) z))
  where
    back : Outcome → Result Memory Refusal
    back (Ok _) = Err x
    back (Err z) = Err z

lists_of : (r : Result Memory Refusal) (s : Storage)
    → ((made r s).1.slots ≡ s.slots.now) × ((made r s).1.flags ≡ s.flags.now) × ((made r s).1.area ≡ s.area.now)
lists_of (Ok m) s = (refl, refl, refl)
lists_of (Err x) s = (refl, refl, refl)

pub fresh_once : (r q : Result Memory Refusal) (s t : Storage) (x : ℕ × State) → made r s ≡ x → made q t ≡ x
    → (r ≡ q) × (s.slots.now ≡ t.slots.now) × (s.flags.now ≡ t.flags.now) × (s.area.now ≡ t.area.now)
fresh_once r q s t x e f =
    let z : made r s ≡ made q t = e ∙ sym f in
    let a = lists_of r s in
    let b = lists_of q t in (
      fresh_made r q s t z,
      sym a.0 ∙ ap (λ (y : ℕ × State). y.1.slots) z ∙ b.0,
      sym a.1 ∙ ap (λ (y : ℕ × State). y.1.flags) z ∙ b.1,
      sym a.2 ∙ ap (λ (y : ℕ × State). y.1.area) z ∙ b.2,
    )

-- memory_size, memory_pages, lr
pub number_is_once : (r q x : ℕ) → r ≡ x → q ≡ x → r ≡ q
number_is_once r q x e f = e ∙ sym f

-- set_lr
pub memory_once : (r q x : Memory) → r ≡ x → q ≡ x → r ≡ q
memory_once r q x e f = e ∙ sym f

-- meet
pub meet_once : (r q : Outcome) (n : ℕ) → number_of r ≡ n → number_of q ≡ n → r ≡ q
meet_once r q n e f = number_once r q (e ∙ sym f)

-- storage_fits
pub told_once : (r q x : Bool) → r ≡ x → q ≡ x → r ≡ q
told_once r q x e f = e ∙ sym f
