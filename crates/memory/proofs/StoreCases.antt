-- A test by cases, and what a store into one page comes to.
use Rattle.std.proofs.Common.{◌≡◌, ℕ, ◌/◌, ◌<◌, ◌≤◌, Bool, true, false, cond, eqb, ltb, ◌≢◌, List, length, refl, ltb-false, ltb-true, eqb-true}
use borrow.Author.Tests.{eqb-false}
use Rattle.bits.specs.Rounding.{page_size}
use Rattle.memory.specs.Storage.{State, absent, slot_in, take_slot, fetch_page, write_page, store_page}

-- what holds on both sides of a test
pub cases {ℓ} : {A : Type ℓ} (P : A → Type 0) (b : Bool) (x y : A) → (b ≡ true → P x) → (b ≡ false → P y) → P (cond b x y)
cases P true x y f g = f refl
cases P false x y f g = g refl

-- a store into page p of s: the page is past the machine, absent with no slot left, on a slot that isn't in use, absent and
-- given a slot, or there
pub data PageStored (s : State) (p at : ℕ) (bytes : List ℕ) : ℕ × State → Type 0 where
  past : s.memory.size / page_size ≤ p → PageStored s p at bytes (2, s)
  full : p < s.memory.size / page_size → slot_in s.slots p ≡ absent → length s.area / page_size ≤ s.memory.used
      → PageStored s p at bytes (7, s)
  wild : p < s.memory.size / page_size → slot_in s.slots p ≢ absent → s.memory.used ≤ slot_in s.slots p
      → PageStored s p at bytes (9, s)
  took : p < s.memory.size / page_size → slot_in s.slots p ≡ absent → s.memory.used < length s.area / page_size
      → PageStored s p at bytes (0, write_page (take_slot s p) p at bytes)
  had : p < s.memory.size / page_size → slot_in s.slots p ≢ absent → slot_in s.slots p < s.memory.used
      → PageStored s p at bytes (0, write_page s p at bytes)

module _ (s : State) (p at : ℕ) (bytes : List ℕ) where
  -- the store after the fetch
  abbrev onto : ℕ × State → ℕ × State
  onto f = cond (eqb f.0 0) (0, write_page f.1 p at bytes) f

  pub page-stored : PageStored s p at bytes (store_page s p at bytes)
  unfolding store_page fetch_page
  page-stored =
      let P : ℕ × State → Type 0 = λ f. PageStored s p at bytes (onto f) in
      cases P (ltb p (s.memory.size / page_size)) _ _
      (λ a.
      cases P (eqb (slot_in s.slots p) absent) _ _
      (λ b.
      cases P (ltb s.memory.used (length s.area / page_size)) _ _
      (λ c. took (ltb-true _ _ a) (eqb-true _ _ b) (ltb-true _ _ c))
      (λ c. full (ltb-true _ _ a) (eqb-true _ _ b) (ltb-false _ _ c)))
      (λ b.
      cases P (ltb (slot_in s.slots p) s.memory.used) _ _
      (λ c. had (ltb-true _ _ a) (eqb-false _ _ b) (ltb-true _ _ c))
      (λ c. wild (ltb-true _ _ a) (eqb-false _ _ b) (ltb-false _ _ c))))
      (λ a. past (ltb-false _ _ a))
