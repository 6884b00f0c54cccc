-- Pages and runs that are counted: a run that is not drawn whole, and the turns of counting.
use mathlib.Core.Path.{◌≡◌, refl, sym, ◌∙◌}
use mathlib.Core.Bool.{Bool, true, false, cond}
use mathlib.Core.List.{List, [], ◌∷◌}
use Prim.Native.Nat.{ℕ, ◌+◌, ◌-◌, ◌*◌, ◌%◌, ◌^◌, ◌≤◌, ◌<◌, min}
use native.Mathlib.Nat.{min-eq_left}
use native.Mathlib.Numerals.{add-one}
use native.Mathlib.Decide.{dec_le}
use native.Mathlib.Omega.{arith}
use lib.Dec.{eqb, leb}
use borrow.Author.Tests.{le-leb, lt-leb, eq-eqb, ne_eqb}
use Rattle.bits.specs.Rounding.{page_size}
use Rattle.recordfile.specs.declared.Record.{Record}
use Rattle.recordfile.specs.declared.Record.TheVariants as entry
use Rattle.listing.specs.Pages.{most_pages, said_of, pages_that, is_dirty, is_source, is_left_out, partly, partly_by, runs_partly}
use Rattle.listing.specs.declared.pages.Said.{Said}
use Rattle.listing.specs.declared.pages.Said.TheVariants.{LeftOut, Source, Dirty}
use lib.ListN.{length}

-- ---- a run

module _ (pages address size : ℕ) where
  pub partly-address : (address % page_size ≡ 0 → ⊥) → 1 ≡ partly pages address size
  unfolding partly
  partly-address h = simp (ne_eqb (address % page_size) 0 h)

  module _ (a : address % page_size ≡ 0) where
    pub partly-size : (size % page_size ≡ 0 → ⊥) → 1 ≡ partly pages address size
    unfolding partly
    partly-size h = simp (eq-eqb (address % page_size) 0 a, ne_eqb (size % page_size) 0 h)

    module _ (s : size % page_size ≡ 0) where
      ends : (b : Bool) → leb (address + size) (pages * page_size) ≡ b → partly pages address size ≡ cond b 0 1
      unfolding partly
      ends b h = simp (eq-eqb (address % page_size) 0 a, eq-eqb (size % page_size) 0 s, h)

      pub partly-past : pages * page_size < address → 1 ≡ partly pages address size
      partly-past h = sym (ends false (lt-leb (address + size) (pages * page_size) (omega arith)))

      pub partly-long : address ≤ pages * page_size → pages * page_size - address < size → 1 ≡ partly pages address size
      partly-long k h = sym (ends false (lt-leb (address + size) (pages * page_size) (omega arith)))

      pub partly_none : address ≤ pages * page_size → size ≤ pages * page_size - address → 0 ≡ partly pages address size
      partly_none k h = sym (ends true (le-leb (address + size) (pages * page_size) (omega arith)))

past_all : (b c : Bool) → ◌≡◌ {A = ℕ} (cond b (cond c (cond false 0 1) 1) 1) 1
past_all true true = refl
past_all true false = refl
past_all false c = refl

-- one that is longer than all pages
partly_longest : (pages address size : ℕ) → pages * page_size < size → partly pages address size ≡ 1
unfolding partly
partly_longest pages address size h =
    rw (lt-leb (address + size) (pages * page_size) (omega arith)) (past_all (eqb (address % page_size) 0) (eqb (size % page_size) 0))

-- a run past 2^64-1 is drawn as one of 2^64-1 bytes is
partly-capped : (pages address count : ℕ) → pages ≤ most_pages
    → partly pages address (min (count * page_size) (2 ^ 64 - 1)) ≡ partly pages address (count * page_size)
partly-capped pages address count few = elim (dec_le (count * page_size) (2 ^ 64 - 1)) [
  | yes h ↦ rw (min-eq_left h)
  | no h ↦
      partly_longest pages address (min (count * page_size) (2 ^ 64 - 1)) (omega arith)
      ∙ sym (partly_longest pages address (count * page_size) (omega arith))
]

-- ---- a record

module _ (pages : ℕ) (r : Record) (p : ℕ) where
  pub source-partly : (address flag id offset size : ℕ) → r ≡ entry.Source address flag id offset size
      → p ≡ partly pages address size
      → p ≡ partly_by pages r
  unfolding partly_by
  source-partly address flag id offset size h e = rw h e

  pub dirty-partly : (address flag count place size : ℕ) → r ≡ entry.Dirty address flag count place → pages ≤ most_pages
      → size ≡ min (count * page_size) (2 ^ 64 - 1)
      → p ≡ partly pages address size
      → p ≡ partly_by pages r
  unfolding partly_by
  dirty-partly address flag count place size h few s e = rw h (e ∙ rw s (partly-capped pages address count few))

-- the others are no runs
pub no_run : (pages : ℕ) (r : Record)
    → ((address flag id offset size : ℕ) → r ≡ entry.Source address flag id offset size → ⊥)
    → ((address flag count place : ℕ) → r ≡ entry.Dirty address flag count place → ⊥)
    → 0 ≡ partly_by pages r
unfolding partly_by
no_run pages (entry.State a b c d e) n m = refl
no_run pages (entry.Registers a b c d e) n m = refl
no_run pages (entry.Source a b c d e) n m = absurd (n _ _ _ _ _ refl)
no_run pages (entry.Dirty a b c d) n m = absurd (m _ _ _ _ refl)
no_run pages entry.Bad n m = refl

-- ---- the records that are left

module _ (rs : List Record) (pages : ℕ) where
  -- with those counted they come to all
  pub record Running (runs : ℕ) (ts : List Record) : Type 0 where
    pub few : runs + length ts ≤ length rs
    pub sum : runs + runs_partly pages ts ≡ runs_partly pages rs

  module _ (runs : ℕ) (ts : List Record) (g : Running runs ts) where
    -- a turn: the next record
    pub running_next : (r : Record) (us : List Record) (b : Bool) → ts ≡ r ∷ us → cond b 1 0 ≡ partly_by pages r → b ≡ true
        → Running (runs + 1) us
    unfolding runs_partly
    running_next r us b e p t =
        let f : runs + length (r ∷ us) ≤ length rs = rw e at g.few in
        let s : runs + (partly_by pages r + runs_partly pages us) ≡ runs_partly pages rs = rw e at g.sum in
        let one : 1 ≡ partly_by pages r = rw t at p in
        record { few = omega arith; sum = omega arith }

    pub running_past : (r : Record) (us : List Record) (b : Bool) → ts ≡ r ∷ us → cond b 1 0 ≡ partly_by pages r → b ≡ false
        → Running runs us
    unfolding runs_partly
    running_past r us b e p t =
        let f : runs + length (r ∷ us) ≤ length rs = rw e at g.few in
        let s : runs + (partly_by pages r + runs_partly pages us) ≡ runs_partly pages rs = rw e at g.sum in
        let none : 0 ≡ partly_by pages r = rw t at p in
        record { few = omega arith; sum = omega arith }

    -- the next one fits
    pub running_fits : (r : Record) (us : List Record) (n : ℕ) → ts ≡ r ∷ us → length rs ≡ n → n < 2 ^ 64 → runs + 1 < 2 ^ 64
    running_fits r us n e l h =
        let f : runs + length (r ∷ us) ≤ length rs = rw e at g.few in
        omega arith

    -- the end
    pub running_done : ts ≡ [] → runs ≡ runs_partly pages rs
    unfolding runs_partly
    running_done e =
        let s : runs + 0 ≡ runs_partly pages rs = rw e at g.sum in
        omega arith

-- ---- the pages below n

pub record Tally (rs : List Record) (pages dirty source none n : ℕ) : Type 0 where
  pub within : n ≤ pages
  pub few_dirty : dirty ≤ n
  pub few_source : source ≤ n
  pub few_none : none ≤ n
  pub are_dirty : dirty ≡ pages_that is_dirty rs n
  pub are_source : source ≡ pages_that is_source rs n
  pub are_none : none ≡ pages_that is_left_out rs n

ones : (t : Said) → (is_dirty t ≤ 1) × (is_source t ≤ 1) × (is_left_out t ≤ 1)
ones LeftOut = (omega arith, omega arith, omega arith)
ones (Source flag id address offset) = (omega arith, omega arith, omega arith)
ones (Dirty flag) = (omega arith, omega arith, omega arith)

-- one page more
that_next : (counted : Said → ℕ) (rs : List Record) (n m d : ℕ) (t : Said) → t ≡ said_of rs n → d ≡ counted t
    → m ≡ pages_that counted rs n
    → m + d ≡ pages_that counted rs (n + 1)
unfolding pages_that
that_next counted rs n m d t et ed em = rw (add-one, em, ed, et)

module _ (rs : List Record) (pages : ℕ) where
  pub tally_none : Tally rs pages 0 0 0 0
  unfolding pages_that
  tally_none =
      record {
        within = omega arith;
        few_dirty = omega arith;
        few_source = omega arith;
        few_none = omega arith;
        are_dirty = refl;
        are_source = refl;
        are_none = refl;
      }

  module _ (dirty source none n : ℕ) (g : Tally rs pages dirty source none n) (h : n < pages) (t : Said) (e : t ≡ said_of rs n) where
    -- a turn: the next page
    pub tally_next : (d s m : ℕ) → d ≡ dirty + is_dirty t → s ≡ source + is_source t → m ≡ none + is_left_out t → Tally rs pages d s m (n + 1)
    tally_next d s m ed es em =
        let o : (is_dirty t ≤ 1) × (is_source t ≤ 1) × (is_left_out t ≤ 1) = ones t in
        record {
          within = omega arith;
          few_dirty = omega (arith, g.few_dirty, o.0);
          few_source = omega (arith, g.few_source, o.1);
          few_none = omega (arith, g.few_none, o.2);
          are_dirty = ed ∙ that_next is_dirty rs n dirty (is_dirty t) t e refl g.are_dirty;
          are_source = es ∙ that_next is_source rs n source (is_source t) t e refl g.are_source;
          are_none = em ∙ that_next is_left_out rs n none (is_left_out t) t e refl g.are_none;
        }
