-- What records say of a page: a run that covers it, one record, and the turns of going through them.
use mathlib.Core.Path.{◌≡◌, refl, sym, ap, ◌∙◌}
use mathlib.Core.Bool.{Bool, true, false, cond}
use mathlib.Core.List.{List, [], ◌∷◌}
use Prim.Native.Nat.{ℕ, ◌+◌, ◌-◌, ◌*◌, ◌^◌, ◌≤◌, ◌<◌, min}
use native.Mathlib.Decide.{dec_le}
use native.Mathlib.Omega.{arith}
use lib.Dec.{leb}
use borrow.Author.Tests.{le-leb, lt-leb}
use Rattle.bits.specs.Rounding.{page_size}
use Rattle.recordfile.specs.declared.Record.{Record}
use Rattle.recordfile.specs.declared.Record.TheVariants as entry
use Rattle.listing.specs.Pages.{most_pages, covers, said_by, last_said, said_of}
use Rattle.listing.specs.declared.pages.Said.{Said}
use Rattle.listing.specs.declared.pages.Said.TheVariants.{LeftOut, Dirty}

-- two tests that hold together
pub leb_same : (a b c d : ℕ) → (a ≤ b → c ≤ d) → (c ≤ d → a ≤ b) → leb a b ≡ leb c d
leb_same a b c d f g = elim (dec_le a b) [
  | yes h ↦ le-leb a b h ∙ sym (le-leb c d (f h))
  | no h ↦
      let n : c ≤ d → ⊥ = λ k. h (g k) in
      lt-leb a b (omega arith) ∙ sym (lt-leb c d (omega arith))
]

-- ---- a run

pub covers_less : (address size n : ℕ) → n * page_size < address → false ≡ covers address size n
unfolding covers
covers_less address size n h = simp (lt-leb address (n * page_size) (omega arith))

pub covers_test : (address size n : ℕ) → address ≤ n * page_size → leb (n * page_size - address + page_size) size ≡ covers address size n
unfolding covers
covers_test address size n h =
    rw (le-leb address (n * page_size) (omega arith))
    (leb_same (n * page_size - address + page_size) size ((n + 1) * page_size) (address + size) (λ k. omega arith) (λ k. omega arith))

-- a run past 2^64-1 covers what one of 2^64-1 bytes does
covers-capped : (address pages n : ℕ) → n < most_pages
    → covers address (min (pages * page_size) (2 ^ 64 - 1)) n ≡ covers address (pages * page_size) n
unfolding covers
covers-capped address pages n h =
    ap (λ (b : Bool). cond (leb address (n * page_size)) b false)
    (leb_same ((n + 1) * page_size) (address + min (pages * page_size) (2 ^ 64 - 1)) ((n + 1) * page_size) (address + pages * page_size) (λ k. omega arith) (λ k. omega arith))

-- ---- a record

module _ (n : ℕ) (before : Said) (r : Record) (b : Bool) where
  module _ (address flag pages place size : ℕ) (h : r ≡ entry.Dirty address flag pages place) (few : n < most_pages)
      (s : size ≡ min (pages * page_size) (2 ^ 64 - 1)) (e : b ≡ covers address size n) where
    same : b ≡ covers address (pages * page_size) n
    same = e ∙ rw s (covers-capped address pages n few)

    pub dirty-covers : b ≡ true → Dirty flag ≡ said_by n before r
    unfolding said_by
    dirty-covers t = rw (h, ← same, t)

    pub dirty-past : b ≡ false → before ≡ said_by n before r
    unfolding said_by
    dirty-past t = rw (h, ← same, t)

-- ---- the records that are left

module _ (rs : List Record) (n : ℕ) where
  -- after what was said before them, they say what all do
  abbrev pub Saying : Said → List Record → Type 0
  Saying said ts = last_said n said ts ≡ said_of rs n

  pub saying_all : (ts : List Record) → ts ≡ rs → Saying LeftOut ts
  unfolding said_of
  saying_all ts e = rw e refl

  module _ (said : Said) (ts : List Record) (g : Saying said ts) where
    -- a turn: the next record
    pub saying_next : (r : Record) (us : List Record) (t : Said) → ts ≡ r ∷ us → t ≡ said_by n said r → Saying t us
    unfolding last_said
    saying_next r us t e et = rw et (rw e at g)

    -- the end
    pub saying_done : ts ≡ [] → said ≡ said_of rs n
    unfolding last_said
    saying_done e = rw e at g
