-- Flags of pages: one flag read, ORed and cleared; a page's permission; and a turn of each loop over pages.
use Rattle.std.proofs.Common.{◌≡◌, ℕ, suc, ◌+◌, ◌-◌, ◌<◌, ◌≤◌, Bool, true, false, cond, eqb, List, length, get_or, set, sym, refl, ap, ◌∙◌, arith, length-set, le-ltb, lt-ltb, eq-eqb, ne_eqb}
use lib.Bits.{bit_and, bit_or}
use Rattle.program.specs.Program.{run, each, perform, onwards, ask, ret}
use Rattle.program.proofs.Laws.{each_none, each_turn, each-stop}
use Rattle.memory.specs.declared.Memory.{Memory}
use Rattle.memory.specs.Pages.{frozen, dirty, wxorx_bit, cleared}
use Rattle.memory.specs.Storage.{State, Valued, state_of, valued, no_value, fits, flag_in, or_flag, and_flag}
use Rattle.memory.specs.Operations.{Call, does, flag?, or! }
use Rattle.memory.specs.Sparse.{clear_flag, permit, permits, marks}
use Rattle.memory.specs.WXorX.{init_flag}

-- ---- the operations on one flag
module _ (flags : List ℕ) (p : ℕ) where
  flag-past : length flags ≤ p → flag_in flags p ≡ no_value 2
  unfolding flag_in
  flag-past h = simp (le-ltb p (length flags) h)

  flag-there : p < length flags → flag_in flags p ≡ valued (get_or flags p 0)
  unfolding flag_in
  flag-there h = simp (lt-ltb p (length flags) h)

module _ (slots flags area : List ℕ) (m : Memory) (p : ℕ) where
  -- past the machine
  module _ (h : length flags ≤ p) where
    pub read_past : (no_value 2, state_of slots flags area m) ≡ run does (perform (flag? p)) (state_of slots flags area m)
    unfolding run
    read_past = rw (flag-past flags p h)

    pub or_past : (f : ℕ) → (2, state_of slots flags area m) ≡ run does (perform (or! p f)) (state_of slots flags area m)
    unfolding run or_flag
    or_past f = simp (le-ltb p (length flags) h)

    pub and_past : (f : ℕ) → (2, state_of slots flags area m) ≡ and_flag (state_of slots flags area m) p f
    unfolding and_flag
    and_past f = simp (le-ltb p (length flags) h)

  -- on the machine
  module _ (h : p < length flags) where
    pub read_there : (v : ℕ) → v ≡ get_or flags p 0
        → (valued v, state_of slots flags area m) ≡ run does (perform (flag? p)) (state_of slots flags area m)
    unfolding run
    read_there v e = rw (flag-there flags p h, e)

    pub or_there : (f : ℕ)
        → (0, state_of slots (set flags p (bit_or (get_or flags p 0) f)) area m)
        ≡ run does (perform (or! p f)) (state_of slots flags area m)
    unfolding run or_flag
    or_there f = simp (lt-ltb p (length flags) h)

    pub and_there : (f : ℕ)
        → (0, state_of slots (set flags p (cleared (get_or flags p 0) f)) area m) ≡ and_flag (state_of slots flags area m) p f
    unfolding and_flag
    and_there f = simp (lt-ltb p (length flags) h)

-- a flag cleared: where the lengths are wrong, and where they are right
module _ (s : State) (p f : ℕ) (b : Bool) (e : b ≡ fits s) where
  pub clear_unfit : b ≡ false → (9, s) ≡ clear_flag p f s
  unfolding clear_flag
  clear_unfit t = rw (← e, t)

  pub clear_fit : (r : ℕ × State) → b ≡ true → r ≡ and_flag s p f → r ≡ clear_flag p f s
  unfolding clear_flag
  clear_fit r t q = rw (← e, t) q

-- ---- one page of a loop

-- what follows a look at a page's flag
abbrev permit_on : ℕ → Valued → Call ℕ
permit_on want v = onwards (λ n. n) (ret (cond (eqb (bit_and v.value wxorx_bit) (bit_and want wxorx_bit)) 0 4)) v.number

abbrev init_on : ℕ → ℕ → Valued → Call ℕ
init_on f p v = onwards (λ n. n) (cond (eqb (bit_and v.value frozen) 0) (perform (or! p f)) (ret 5)) v.number

module _ (slots flags area : List ℕ) (m : Memory) (p : ℕ) where
  abbrev here : State
  here = state_of slots flags area m

  looked : (k : Valued → Call ℕ) (v : Valued) (r : ℕ × State) → flag_in flags p ≡ v → r ≡ run does (k v) here
      → r ≡ run does (ask (flag? p) k) here
  unfolding run
  looked k v r e q = q ∙ ap (λ (v : Valued). run does (k v) here) (sym e)

  module _ (h : length flags ≤ p) where
    permit-past : (want : ℕ) → (2, here) ≡ run does (permit want p) here
    unfolding run permit
    permit-past want = looked (permit_on want) (no_value 2) _ (flag-past flags p h) refl

    init_past : (f : ℕ) → (2, here) ≡ run does (init_flag f p) here
    unfolding run init_flag
    init_past f = looked (init_on f p) (no_value 2) _ (flag-past flags p h) refl

  module _ (h : p < length flags) where
    permit_not : (want : ℕ) → (bit_and (get_or flags p 0) wxorx_bit ≡ bit_and want wxorx_bit → ⊥)
        → (4, here) ≡ run does (permit want p) here
    unfolding run permit
    permit_not want n = looked (permit_on want) _ _ (flag-there flags p h) (simp (ne_eqb _ _ n))

    permit-yes : (want : ℕ) → bit_and (get_or flags p 0) wxorx_bit ≡ bit_and want wxorx_bit → (0, here) ≡ run does (permit want p) here
    unfolding run permit
    permit-yes want e = looked (permit_on want) _ _ (flag-there flags p h) (simp (eq-eqb _ _ e))

    -- where the frozen bit is 0, the page's flags are ORed
    frozen-is : (f : ℕ) (b : Bool) → eqb (bit_and (get_or flags p 0) frozen) 0 ≡ b
        → run does (cond b (perform (or! p f)) (ret 5)) here ≡ run does (init_flag f p) here
    unfolding run init_flag
    frozen-is f b e =
        looked (init_on f p) _ _ (flag-there flags p h)
        (ap (λ (b : Bool). run does (cond b (perform (or! p f)) (ret 5)) here) (sym e))

    init_not : (f : ℕ) → (bit_and (get_or flags p 0) frozen ≡ 0 → ⊥) → (5, here) ≡ run does (init_flag f p) here
    unfolding run
    init_not f n = frozen-is f false (ne_eqb _ _ n)

    init_yes : (f : ℕ) → bit_and (get_or flags p 0) frozen ≡ 0
        → (0, state_of slots (set flags p (bit_or (get_or flags p 0) f)) area m) ≡ run does (init_flag f p) here
    init_yes f e = or_there slots flags area m p h f ∙ frozen-is f true (eq-eqb _ _ e)

-- ---- loops over pages

-- n pages from p on, with these flags, come to what n₀ pages from p₀ on come to with the flags at entry
pub record Left (g : ℕ → Call ℕ) (slots area flags₀ : List ℕ) (n₀ p₀ : ℕ) (flags : List ℕ) (n p : ℕ) : Type 0 where
  pub same_length : length flags ≡ length flags₀
  pub rest : (m : Memory)
      → run does (each g n p) (state_of slots flags area m) ≡ run does (each g n₀ p₀) (state_of slots flags₀ area m)

pub left_here : (g : ℕ → Call ℕ) (slots area flags : List ℕ) (n p : ℕ) → Left g slots area flags n p flags n p
left_here g slots area flags n p = record { same_length = refl; rest = λ m. refl }

module _ {g : ℕ → Call ℕ} {slots area flags₀ : List ℕ} {n₀ p₀ : ℕ} {flags : List ℕ} {n p : ℕ}
    (w : Left g slots area flags₀ n₀ p₀ flags n p) where
  -- no page is left
  left_none : (m : Memory) → n ≡ 0 → (0, state_of slots flags area m) ≡ run does (each g n₀ p₀) (state_of slots flags₀ area m)
  left_none m e = each_none does g _ n p e ∙ w.rest m

  module _ (i : ℕ) (e : n ≡ suc i) where
    -- a page that refuses
    left-stop : (m : Memory) (k : ℕ) → (k, state_of slots flags area m) ≡ run does (g p) (state_of slots flags area m) → (k ≡ 0 → ⊥)
        → (k, state_of slots flags area m) ≡ run does (each g n₀ p₀) (state_of slots flags₀ area m)
    left-stop m k q z = each-stop does g _ n p i e k _ (eqb k 0) q refl (ne_eqb k 0 z) ∙ w.rest m

    -- a page that is done
    left-turn : (new : List ℕ) → length new ≡ length flags
        → ((m : Memory) → (0, state_of slots new area m) ≡ run does (g p) (state_of slots flags area m))
        → Left g slots area flags₀ n₀ p₀ new i (p + 1)
    left-turn new l q =
        record {
          same_length = l ∙ w.same_length;
          rest = λ m. each_turn does g _ n p i e 0 _ true (q m) refl refl ∙ w.rest m;
        }

-- the pages from `page` to last
abbrev pub LeftTo : (ℕ → Call ℕ) → List ℕ → List ℕ → List ℕ → ℕ → ℕ → List ℕ → ℕ → Type 0
LeftTo g slots area flags₀ first last flags page = Left g slots area flags₀ (last + 1 - first) first flags (last + 1 - page) page

one_more : (last page : ℕ) → page ≤ last → last + 1 - page ≡ suc (last + 1 - (page + 1))
one_more last page h = omega arith

-- check_permission
module _ (slots flags area : List ℕ) (first last want page : ℕ)
    (w : LeftTo (permit want) slots area flags first last flags page) where
  pub permits-done : (m : Memory) → last < page
      → (0, state_of slots flags area m) ≡ run does (permits first last want) (state_of slots flags area m)
  unfolding permits
  permits-done m h = left_none w m (omega arith)

  module _ (h : page ≤ last) where
    pub permits-past : (m : Memory) → length flags ≤ page
        → (2, state_of slots flags area m) ≡ run does (permits first last want) (state_of slots flags area m)
    unfolding permits
    permits-past m l =
        left-stop w _ (one_more last page h) m 2 (permit-past slots flags area m page l want) (omega arith)

    module _ (l : page < length flags) where
      pub permits_not : (m : Memory) → (bit_and (get_or flags page 0) wxorx_bit ≡ bit_and want wxorx_bit → ⊥)
          → (4, state_of slots flags area m) ≡ run does (permits first last want) (state_of slots flags area m)
      unfolding permits
      permits_not m n =
          left-stop w _ (one_more last page h) m 4 (permit_not slots flags area m page l want n) (omega arith)

      pub permits-next : bit_and (get_or flags page 0) wxorx_bit ≡ bit_and want wxorx_bit
          → LeftTo (permit want) slots area flags first last flags (page + 1)
      permits-next e =
          left-turn w _ (one_more last page h) flags refl (λ m. permit-yes slots flags area m page l want e)

-- set_dirty
abbrev pub mark : ℕ → Call ℕ
mark p = perform (or! p dirty)

module _ (slots area flags₀ flags : List ℕ) (first last page : ℕ)
    (w : LeftTo mark slots area flags₀ first last flags page) where
  pub marks-done : (m : Memory) → last < page
      → (0, state_of slots flags area m) ≡ run does (marks first last) (state_of slots flags₀ area m)
  unfolding marks
  marks-done m h = left_none w m (omega arith)

  module _ (h : page ≤ last) where
    pub marks-past : (m : Memory) → length flags ≤ page
        → (2, state_of slots flags area m) ≡ run does (marks first last) (state_of slots flags₀ area m)
    unfolding marks
    marks-past m l =
        left-stop w _ (one_more last page h) m 2 (or_past slots flags area m page l dirty) (omega arith)

    pub marks-next : page < length flags
        → LeftTo mark slots area flags₀ first last (set flags page (bit_or (get_or flags page 0) dirty)) (page + 1)
    marks-next l =
        left-turn w _ (one_more last page h) _ (length-set flags page _)
        (λ m. or_there slots flags area m page l dirty)

-- the flags of W^X `init_pages`
abbrev pub InitsTo : List ℕ → List ℕ → List ℕ → ℕ → ℕ → ℕ → List ℕ → ℕ → Type 0
InitsTo slots area flags₀ f first count flags page =
    Left (init_flag f) slots area flags₀ count first flags (first + count - page) page

module _ (slots area flags₀ flags : List ℕ) (first count f page : ℕ)
    (w : InitsTo slots area flags₀ f first count flags page) where
  pub inits-done : (m : Memory) → first + count ≤ page
      → (0, state_of slots flags area m) ≡ run does (each (init_flag f) count first) (state_of slots flags₀ area m)
  inits-done m h = left_none w m (omega arith)

  module _ (h : page < first + count) where
    others : first + count - page ≡ suc (first + count - (page + 1))
    others = omega arith

    pub inits-past : (m : Memory) → length flags ≤ page
        → (2, state_of slots flags area m) ≡ run does (each (init_flag f) count first) (state_of slots flags₀ area m)
    inits-past m l =
        left-stop w _ others m 2 (init_past slots flags area m page l f) (omega arith)

    module _ (l : page < length flags) where
      pub inits-frozen : (m : Memory) → (bit_and (get_or flags page 0) frozen ≡ 0 → ⊥)
          → (5, state_of slots flags area m) ≡ run does (each (init_flag f) count first) (state_of slots flags₀ area m)
      inits-frozen m n =
          left-stop w _ others m 5 (init_not slots flags area m page l f n) (omega arith)

      pub inits-next : bit_and (get_or flags page 0) frozen ≡ 0
          → InitsTo slots area flags₀ f first count (set flags page (bit_or (get_or flags page 0) f)) (page + 1)
      inits-next e =
          left-turn w _ others _ (length-set flags page _)
          (λ m. init_yes slots flags area m page l f e)
