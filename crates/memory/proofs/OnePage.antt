-- One page: its slot, the cases of a fetch and of a store to it.
use Rattle.std.proofs.Common.{◌≡◌, ℕ, zero, suc, ◌+◌, ◌*◌, ◌/◌, ◌<◌, ◌≤◌, Bool, true, false, cond, eqb, List, [], ◌∷◌, length, get_or, set, sym, refl, ap, ◌∙◌, not-suc-le-zero, arith, le-ltb, lt-ltb, eq-eqb, ne_eqb, eqb-true}
use native.Mathlib.Decide.{dec_lt}
use lib.ListN.{get_or-eq_default}
use lib.Bits.{bit_or}
use Rattle.bits.specs.Rounding.{page_size}
use Rattle.words.specs.Bytes.{written, filled}
use Rattle.memory.specs.declared.Memory.{Memory}
use Rattle.memory.specs.Pages.{dirty}
use Rattle.memory.specs.Storage.{State, state_of, Fitting, absent, slot_in, take_slot, fetch_page, write_page, store_page}
use Rattle.memory.specs.Inner.{Fetch}

-- ---- a page's slot

-- past the list or not is all that the default is asked for
get_d_any : (l : List ℕ) (i d e : ℕ) → i < length l → get_or l i d ≡ get_or l i e
get_d_any [] i d e h = absurd (not-suc-le-zero h)
get_d_any (x ∷ xs) zero d e h = refl
get_d_any (x ∷ xs) (suc i) d e h = get_d_any xs i d e (omega arith)

pub slot_there : (slots : List ℕ) (p x : ℕ) → p < length slots → x ≡ get_or slots p 0 → x ≡ slot_in slots p
slot_there slots p x h e = e ∙ get_d_any slots p 0 absent h

pub slot_read : (slots : List ℕ) (p x : ℕ) → p < length slots → x ≡ slot_in slots p → x ≡ get_or slots p 0
slot_read slots p x h e = e ∙ get_d_any slots p absent 0 h

pub slot_past : (slots : List ℕ) (p : ℕ) → length slots ≤ p → absent ≡ slot_in slots p
slot_past slots p h = sym (get_or-eq_default slots absent h)

-- ---- a fetch: what it answers and leaves
abbrev pub taken : Memory → Memory
taken m = record { size = m.size; used = m.used + 1; reservation = m.reservation }

module _ (slots flags area : List ℕ) (m : Memory) (p : ℕ) where
  pub page-past : m.size / page_size ≤ p → (2, state_of slots flags area m) ≡ fetch_page (state_of slots flags area m) p
  unfolding fetch_page
  page-past h = simp (le-ltb _ _ h)

  module _ (x : ℕ) where
    pub page-full : x ≡ absent → length area / page_size ≤ m.used → x ≡ get_or slots p 0
        → p < m.size / page_size → Fitting (length slots) (length flags) (length area) m
        → (7, state_of slots flags area m) ≡ fetch_page (state_of slots flags area m) p
    unfolding fetch_page
    page-full a u e h f = simp (lt-ltb _ _ h, eq-eqb _ _ (sym (slot_there slots p x (omega arith) e) ∙ a), le-ltb _ _ u)

    pub page_bad : x ≡ get_or slots p 0 → (x ≡ absent → ⊥) → m.used ≤ x
        → p < m.size / page_size → Fitting (length slots) (length flags) (length area) m
        → (9, state_of slots flags area m) ≡ fetch_page (state_of slots flags area m) p
    unfolding fetch_page
    page_bad e a u h f = simp (lt-ltb _ _ h, ← slot_there slots p x (omega arith) e, ne_eqb _ _ a, le-ltb _ _ u)

    -- the page had a slot
    pub page-had : x ≡ get_or slots p 0 → x < m.used
        → p < m.size / page_size → Fitting (length slots) (length flags) (length area) m
        → (0, state_of slots flags area m) ≡ fetch_page (state_of slots flags area m) p
    unfolding fetch_page
    page-had e u h f =
        let a : x ≡ absent → ⊥ = omega arith in
        simp (lt-ltb _ _ h, ← slot_there slots p x (omega arith) e, ne_eqb _ _ a, lt-ltb _ _ u)

    -- it takes the lowest slot not in use
    pub page-taken : (cl : List ℕ) → x ≡ absent → m.used < length area / page_size → x ≡ get_or slots p 0
        → p < m.size / page_size → Fitting (length slots) (length flags) (length area) m
        → cl ≡ written area (m.used * page_size) (filled page_size 0)
        → (0, state_of (set slots p m.used) flags cl (taken m)) ≡ fetch_page (state_of slots flags area m) p
    unfolding fetch_page take_slot
    page-taken cl a u e h f w =
        simp (lt-ltb _ _ h, eq-eqb _ _ (sym (slot_there slots p x (omega arith) e) ∙ a), lt-ltb _ _ u) (rw w)

-- what is known then
module _ (slots : List ℕ) (flags area : ℕ) (m : Memory) (p : ℕ) (f : Fitting (length slots) flags area m) where
  pub fetched-had : (x : ℕ) → p < m.size / page_size → x ≡ get_or slots p 0 → x < m.used → Fetch 0 p x slots area m m
  fetched-had x h e u =
      record {
        kept = record { size_kept = refl; reservation_kept = refl; used_in = f.used_in };
        there = λ z. h;
        slot_is = λ z. slot_there slots p x (omega arith) e;
        slot_inside = λ z. omega arith;
      }

-- ---- a store to one page, by what its fetch answered and left
module _ (slots flags area sl ar bytes : List ℕ) (m k : Memory) (p at n : ℕ) (d : Bool)
    (e : (n, state_of sl flags ar k) ≡ fetch_page (state_of slots flags area m) p) (i : d ≡ eqb n 0) where
  after_fetch : ℕ × State → ℕ × State
  after_fetch q = cond (eqb q.0 0) (0, write_page q.1 p at bytes) q

  by_test : Bool → ℕ × State
  by_test b = cond b (0, write_page (state_of sl flags ar k) p at bytes) (n, state_of sl flags ar k)

  stored : store_page (state_of slots flags area m) p at bytes ≡ by_test d
  unfolding store_page after_fetch by_test
  stored = ap after_fetch (sym e) ∙ ap by_test (sym i)

  pub page-refused : d ≡ false → (n, state_of sl flags ar k) ≡ store_page (state_of slots flags area m) p at bytes
  unfolding by_test
  page-refused c = sym (stored ∙ rw c)

  pub page-written : d ≡ true → (x a : ℕ) → Fetch n p x sl a m k
      → (fl w : List ℕ) → fl ≡ set flags p (bit_or (get_or flags p 0) dirty) → w ≡ written ar (x * page_size + at) bytes
      → (0, state_of sl fl w k) ≡ store_page (state_of slots flags area m) p at bytes
  unfolding write_page by_test
  page-written c x a r fl w u v =
      let z : n ≡ 0 = eqb-true n 0 (sym i ∙ c) in
      sym (stored ∙ rw (c, ← r.slot_is z, u, v))

-- a page that was stored to is there
pub stored_there : (s t : State) (p at k : ℕ) (bytes : List ℕ) → (k, t) ≡ store_page s p at bytes → k ≡ 0
    → p < s.memory.size / page_size
stored_there s t p at k bytes e z = elim (dec_lt p (s.memory.size / page_size)) [
  | yes h ↦ h
  | no h ↦
      let past = page-past s.slots s.flags s.area s.memory p (omega arith) in
      let two =
      page-refused s.slots s.flags s.area s.slots s.area bytes s.memory s.memory p at 2 false past refl refl in
      let y : k ≡ 2 = ap (λ (x : ℕ × State). x.0) (e ∙ sym two) in
      absurd (omega arith)
]
