-- A slot that is made ready for a store: zeroed, or all its bytes are to be stored to.
use Rattle.std.proofs.Common.{◌≡◌, ℕ, ◌+◌, ◌*◌, ◌/◌, ◌<◌, ◌≤◌, Bool, true, false, eqb, List, length, get_or, set, sym, refl, ap, ◌∙◌, arith, eq-eqb}
use lib.Bits.{bit_or}
use borrow.Author.Tests.{eqb-false}
use Rattle.bits.specs.Rounding.{page_size}
use Rattle.words.specs.Bytes.{written, filled}
use Rattle.words.proofs.Written.{written-fits, length-written, take-written, drop-written}
use Rattle.words.proofs.Filled.{length-filled}
use Rattle.memory.specs.declared.Memory.{Memory}
use Rattle.memory.specs.Pages.{dirty}
use Rattle.memory.specs.Storage.{State, state_of, Fitting, absent, store_page, fetch_page}
use Rattle.memory.specs.Inner.{Fetch}
use Rattle.memory.specs.Ready.{Ready}
use Rattle.memory.proofs.OnePage.{taken, page-past, page-full, page-taken, page-refused, page-written}

-- bytes that were all stored to again are as if they had not been stored
written_over : (s l m : List ℕ) (at : ℕ) → length l ≡ length m → at + length m ≤ length s
    → written s at m ≡ written (written s at l) at m
written_over s l m at e h =
    sym
    (written-fits (written s at l) m at (rw length-written h)
    ∙ rw (take-written s l at at (omega arith), drop-written s l at (at + length m) (omega arith))
    (sym (written-fits s m at h)))

pub ready_same : (i n x : ℕ) (a b : List ℕ) → b ≡ a → Ready i n x a b
ready_same i n x a b e =
    record { refused = λ z. e; same = λ at l h k. ap (λ (t : List ℕ). written t (x * page_size + at) l) e }

pub ready_whole : (n x : ℕ) (a : List ℕ) → n ≡ page_size → x < length a / page_size
    → Ready 0 n x (written a (x * page_size) (filled page_size 0)) a
ready_whole n x a e h =
    record {
      refused = λ z. absurd (z refl);
      same =
          λ at l f k.
          let z : x * page_size + at ≡ x * page_size = omega arith in
          rw z (written_over a (filled page_size 0) l (x * page_size) (length-filled page_size 0 ∙ omega arith) (omega arith));
    }

-- ---- what a fetch answers and leaves but for the area
module _ (n : ℕ) (sl fl ar : List ℕ) (k : Memory) (q : ℕ × State) (e : (n, state_of sl fl ar k) ≡ q) where
  area-is : ar ≡ q.1.area
  area-is = ap (λ (t : ℕ × State). t.1.area) e

  pub but_area : (n, state_of sl fl q.1.area k) ≡ q
  but_area = ap (λ (t : List ℕ). (n, state_of sl fl t k)) (sym area-is) ∙ e

  pub ready_as_it_was : (i j x : ℕ) → Ready i j x q.1.area ar
  ready_as_it_was i j x = ready_same i j x q.1.area ar area-is

  pub ready_taken : (i j x : ℕ) (b : List ℕ) → Ready i j x ar b → Ready i j x q.1.area b
  ready_taken i j x b r = rw (← area-is) r

module _ (slots flags area : List ℕ) (m : Memory) (p : ℕ) where
  abbrev all : ℕ × State
  all = fetch_page (state_of slots flags area m) p

  pub past_but : m.size / page_size ≤ p → (2, state_of slots flags all.1.area m) ≡ all
  past_but h = but_area 2 slots flags area m all (page-past slots flags area m p h)

  pub past_ready : (j x : ℕ) → m.size / page_size ≤ p → Ready 2 j x all.1.area area
  past_ready j x h = ready_as_it_was 2 slots flags area m all (page-past slots flags area m p h) 2 j x

  module _ (x : ℕ) (a : x ≡ absent) where
    pub full_but : length area / page_size ≤ m.used → x ≡ get_or slots p 0
        → p < m.size / page_size → Fitting (length slots) (length flags) (length area) m
        → (7, state_of slots flags all.1.area m) ≡ all
    full_but u e h f = but_area 7 slots flags area m all (page-full slots flags area m p x a u e h f)

    pub full_ready : (j y : ℕ) → length area / page_size ≤ m.used → x ≡ get_or slots p 0
        → p < m.size / page_size → Fitting (length slots) (length flags) (length area) m
        → Ready 7 j y all.1.area area
    full_ready j y u e h f = ready_as_it_was 7 slots flags area m all (page-full slots flags area m p x a u e h f) 7 j y

    pub taken_but : m.used < length area / page_size → x ≡ get_or slots p 0
        → p < m.size / page_size → Fitting (length slots) (length flags) (length area) m
        → (0, state_of (set slots p m.used) flags all.1.area (taken m)) ≡ all
    taken_but u e h f =
        but_area 0 (set slots p m.used) flags (written area (m.used * page_size) (filled page_size 0)) (taken m) all
        (page-taken slots flags area m p x _ a u e h f refl)

    pub taken_ready : (j : ℕ) (b : List ℕ) → m.used < length area / page_size → x ≡ get_or slots p 0
        → p < m.size / page_size → Fitting (length slots) (length flags) (length area) m
        → Ready 0 j m.used (written area (m.used * page_size) (filled page_size 0)) b
        → Ready 0 j m.used all.1.area b
    taken_ready j b u e h f r =
        ready_taken 0 (set slots p m.used) flags (written area (m.used * page_size) (filled page_size 0)) (taken m) all
        (page-taken slots flags area m p x _ a u e h f refl) 0 j m.used b r

-- ---- a store after that fetch
module _ (slots flags area sl b bytes : List ℕ) (m k : Memory) (p at n x : ℕ) (d : Bool)
    (e : (n, state_of sl flags (fetch_page (state_of slots flags area m) p).1.area k) ≡ fetch_page (state_of slots flags area m) p)
    (y : Ready n (length bytes) x (fetch_page (state_of slots flags area m) p).1.area b) (i : d ≡ eqb n 0) where
  pub ready_refused : d ≡ false → (n, state_of sl flags b k) ≡ store_page (state_of slots flags area m) p at bytes
  ready_refused c =
      let z : n ≡ 0 → ⊥ = eqb-false n 0 (sym i ∙ c) in
      ap (λ (t : List ℕ). (n, state_of sl flags t k)) (y.refused z)
      ∙ page-refused slots flags area sl _ bytes m k p at n d e i c

  pub ready_written : d ≡ true → (a : ℕ) → Fetch n p x sl a m k → at + length bytes ≤ page_size
      → (fl w : List ℕ) → fl ≡ set flags p (bit_or (get_or flags p 0) dirty) → w ≡ written b (x * page_size + at) bytes
      → (0, state_of sl fl w k) ≡ store_page (state_of slots flags area m) p at bytes
  ready_written c a r h fl w u v =
      page-written slots flags area sl _ bytes m k p at n d e i c x a r fl w u (v ∙ y.same at bytes refl h)

-- the same where the fetch answered a slot or a refusal, and left the flags as they were
module _ (slots flags area sl fl b bytes : List ℕ) (m k : Memory) (p at n x j : ℕ) (f : fl ≡ flags) (l : j ≡ length bytes)
    (e : (n, state_of sl flags (fetch_page (state_of slots flags area m) p).1.area k) ≡ fetch_page (state_of slots flags area m) p)
    (y : Ready n j x (fetch_page (state_of slots flags area m) p).1.area b) where
  y' : Ready n (length bytes) x (fetch_page (state_of slots flags area m) p).1.area b
  y' = rw (← l) y

  pub part-refused : false ≡ eqb n 0 → (n, state_of sl fl b k) ≡ store_page (state_of slots flags area m) p at bytes
  part-refused i = rw f (ready_refused slots flags area sl b bytes m k p at n x false e y' i refl)

  pub part-written : n ≡ 0 → (a : ℕ) → Fetch n p x sl a m k → at + length bytes ≤ page_size
      → (s₂ f₂ w : List ℕ) → s₂ ≡ sl → f₂ ≡ set fl p (bit_or (get_or fl p 0) dirty) → w ≡ written b (x * page_size + at) bytes
      → (0, state_of s₂ f₂ w k) ≡ store_page (state_of slots flags area m) p at bytes
  part-written z a r h s₂ f₂ w es u v =
      rw es
      (ready_written slots flags area sl b bytes m k p at n x true e y' (sym (eq-eqb n 0 z)) refl a r h f₂ w
      (u ∙ ap (λ (q : List ℕ). set q p (bit_or (get_or q p 0) dirty)) f) v)
