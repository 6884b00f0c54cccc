-- The first pass: the pages of a run met, and runs counted.
use mathlib.Core.Path.{◌≡◌, refl}
use mathlib.Core.Bool.{false, cond}
use mathlib.Core.List.{List, [], ◌∷◌}
use Prim.Native.Nat.{ℕ, zero, suc, ◌+◌, ◌-◌, ◌≤◌, ◌<◌}
use native.Mathlib.Omega.{arith}
use lib.Dec.{eqb}
use lib.ListN.{length}
use Rattle.memory.specs.Storage.{met}
use Rattle.snapshot.specs.Runs.{Run, flag_at, dirty_from}
use Rattle.snapshot.specs.Walk.{run_of}
use Rattle.snapshot.specs.Answers.{met_run, counts, tally}
use Rattle.snapshot.specs.declared.runs.DirtySpan.{DirtySpan}
use Rattle.snapshot.proofs.RunPages.{DirtyFront, DirtyLaid, dirty-laid}

-- ---- the pages of a run

-- the pages from `page` to p are met: what is left decides
pub record Meeting (slots : List ℕ) (used page pages p : ℕ) : Type 0 where
  pub left : met_run slots used (page + pages - p) p ≡ met_run slots used pages page

pub meeting : (slots : List ℕ) (used page pages : ℕ) → Meeting slots used page pages page
meeting slots used page pages =
    let z : page + pages - page ≡ pages = omega arith in
    record { left = rw z }

module _ {slots : List ℕ} {used page pages p : ℕ} (g : Meeting slots used page pages p) where
  pub meet_end : page + pages ≤ p → 0 ≡ met_run slots used pages page
  unfolding met_run
  meet_end h =
      let z : page + pages - p ≡ zero = omega arith in
      rw z at g.left

  module _ (h : p < page + pages) where
    met-one : cond (eqb (met slots used p) 0) (met_run slots used (page + pages - (p + 1)) (p + 1)) (met slots used p)
        ≡ met_run slots used pages page
    unfolding met_run
    met-one =
        let z : page + pages - p ≡ suc (page + pages - (p + 1)) = omega arith in
        rw z at g.left

    pub meet_stop : (k : ℕ) → k ≡ met slots used p → false ≡ eqb k 0 → k ≡ met_run slots used pages page
    meet_stop k e i = rw (← e, ← i) at met-one

    pub meet_on : 0 ≡ met slots used p → Meeting slots used page pages (p + 1)
    meet_on e = record { left = rw (← e) at met-one }

-- ---- dirty runs

-- the runs of all pages, in turn from the first page on
pub dirty_all : (flags : List ℕ) → DirtyLaid (flag_at flags) (length flags) 0 (dirty_from flags 0)
unfolding dirty_from
dirty_all flags =
    let z : length flags - 0 ≡ length flags = omega arith in
    let y : 0 + length flags ≡ length flags = omega arith in
    rw z (rw y at (dirty-laid (flag_at flags) (length flags) 0))

-- the runs before those that are left are met and counted, and their pages are below `passed`: what is left decides
pub record Counting (slots flags : List ℕ) (used runs counted : ℕ) (left : List Run) : Type 0 where
  pub decides : tally slots used runs counted left ≡ tally slots used 0 0 (dirty_from flags 0)
  pub passed : ℕ
  pub laid : DirtyLaid (flag_at flags) (length flags) passed left
  pub few : runs ≤ passed
  pub fewer : counted ≤ passed

pub counting : (slots flags : List ℕ) (used : ℕ) → Counting slots flags used 0 0 (dirty_from flags 0)
counting slots flags used =
    record { decides = refl; passed = 0; laid = dirty_all flags; few = omega arith; fewer = omega arith }

module _ {slots flags : List ℕ} {used runs counted : ℕ} {left : List Run} (g : Counting slots flags used runs counted left) where
  pub count_end : left ≡ [] → counts 0 runs counted ≡ tally slots used 0 0 (dirty_from flags 0)
  unfolding tally
  count_end e = rw e at g.decides

  module _ (r : DirtySpan) (rest : List Run) (e : left ≡ run_of r ∷ rest) where
    front : DirtyFront (flag_at flags) (length flags) g.passed (run_of r)
    unfolding DirtyLaid
    front = (rw e at g.laid).0

    pub count_within : r.page + r.pages ≤ length flags
    count_within = front.within

    pub count_fits : counted + r.pages ≤ length flags
    count_fits = omega (arith, front.above, front.within, g.fewer)

    pub runs_fit : runs + 1 ≤ length flags
    runs_fit = omega (arith, front.above, front.some, front.within, g.few)

    counted-one : cond (eqb (met_run slots used r.pages r.page) 0) (tally slots used (runs + 1) (counted + r.pages) rest)
        (counts (met_run slots used r.pages r.page) 0 0)
        ≡ tally slots used 0 0 (dirty_from flags 0)
    unfolding tally
    counted-one = rw e at g.decides

    pub count_stop : (k : ℕ) → k ≡ met_run slots used r.pages r.page → false ≡ eqb k 0
        → counts k 0 0 ≡ tally slots used 0 0 (dirty_from flags 0)
    count_stop k m i = rw (← m, ← i) at counted-one

    pub count_on : 0 ≡ met_run slots used r.pages r.page → Counting slots flags used (runs + 1) (counted + r.pages) rest
    unfolding DirtyLaid
    count_on m =
        let f = front in
        let a = g.few in
        let b = g.fewer in
        let above = f.above in
        let some = f.some in
        record {
          decides = rw (← m) at counted-one;
          passed = r.page + r.pages;
          laid = (rw e at g.laid).1;
          few = omega arith;
          fewer = omega arith;
        }
