-- What the operations reply on well-formed storage, by the memory's size.
use Rattle.std.proofs.Common.{◌≡◌, ℕ, ◌/◌, ◌<◌, true, cond, eqb, ltb, ◌⊎◌, List, length, get_or, refl, inl, inr, arith, lt-ltb}
use borrow.Author.Tests.{eqb-false}
use Rattle.bits.specs.Rounding.{page_size}
use Rattle.memory.specs.Storage.{State, absent, slot_in, fits, flag_in, valued, no_value, met, store_page}
use Rattle.memory.specs.View.{WellFormed, Roomy}
use Rattle.memory.proofs.Lengths.{fits-yes}
use Rattle.memory.proofs.StoreCases.{cases, PageStored, past, full, wild, took, had, page-stored}
use Rattle.memory.proofs.WellFormed.{present_lt}

module _ (s : State) (w : WellFormed s) where
  pub lengths_reply : fits s ≡ true
  lengths_reply = fits-yes _ _ _ _ w.fit

  -- a page's flag, or past the machine
  pub flag-reply : (p : ℕ)
      → flag_in s.flags p ≡ cond (ltb p (s.memory.size / page_size)) (valued (get_or s.flags p 0)) (no_value 2)
  unfolding flag_in
  flag-reply p = rw w.fit.flags_are

  -- every page of the machine can be read
  pub meet-reply : (p : ℕ) → met s.slots s.memory.used p ≡ cond (ltb p (s.memory.size / page_size)) 0 2
  unfolding met
  meet-reply p = rw (w.fit.slots_are, fine)
    where
      fine : ◌≡◌ {A = ℕ} (cond (eqb (slot_in s.slots p) absent) 0 (cond (ltb (slot_in s.slots p) s.memory.used) 0 9)) 0
      fine =
          cases (λ (n : ℕ). n ≡ 0) (eqb (slot_in s.slots p) absent) _ _
          (λ e. refl)
          (λ e. rw (lt-ltb _ _ (w.held p (eqb-false _ _ e))))

  -- an absent page finds a slot where there is one for every page
  pub slot_left : Roomy s → (p : ℕ) → p < s.memory.size / page_size → slot_in s.slots p ≡ absent
      → s.memory.used < length s.area / page_size
  slot_left r p h e =
      omega (arith, present_lt s.slots p (omega (arith, w.fit.slots_are)) e, w.counted, w.fit.slots_are)

  -- a store into a page: done, past the machine, or no slot left, which is so only where there isn't one for every page
  pub part-reply : (p at : ℕ) (bytes : List ℕ) → let n : ℕ = (store_page s p at bytes).0 in
      (n ≡ 0) ⊎ ((n ≡ 2) ⊎ ((n ≡ 7) × (Roomy s → ⊥)))
  part-reply p at bytes = go _ (page-stored s p at bytes)
    where
      go : (r : ℕ × State) → PageStored s p at bytes r → (r.0 ≡ 0) ⊎ ((r.0 ≡ 2) ⊎ ((r.0 ≡ 7) × (Roomy s → ⊥)))
      go r (past h) = inr (inl refl)
      go r (full h e k) = inr (inr (refl, λ m. omega (arith, slot_left m p h e)))
      go r (wild h n k) = absurd (omega (arith, w.held p n))
      go r (took h e k) = inl refl
      go r (had h n k) = inl refl
