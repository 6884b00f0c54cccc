-- The runs of dirty pages from a page on: page by page, and a run at a time.
use mathlib.Core.Path.{◌≡◌, refl, sym, ap, ◌∙◌}
use mathlib.Core.Bool.{true, false}
use mathlib.Core.List.{List, [], ◌∷◌}
use mathlib.Core.Logic.{◌≢◌}
use Prim.Native.Nat.{ℕ, ◌+◌, ◌-◌, ◌≤◌, ◌<◌}
use native.Mathlib.Omega.{arith}
use native.Mathlib.Decide.{ℕ_discrete}
use lib.Bits.{bit_and}
use lib.Dec.{eqb}
use lib.ListN.{length}
use borrow.Author.Tests.{eq-eqb, ne_eqb, eqb-true}
use Rattle.program.specs.Program.{along}
use Rattle.memory.specs.Pages.{dirty}
use Rattle.memory.proofs.StoreCases.{cases}
use Rattle.snapshot.specs.Runs.{Run, a_run, neighbours, join_dirty, dirty_runs, flag_at, dirty_from}
use Rattle.snapshot.specs.Walk.{joined, meets, both, run_of, dirty_before, DirtyEnds}
use Rattle.snapshot.specs.declared.runs.DirtySpan.{DirtySpan}
use Rattle.snapshot.proofs.Joining.{along_none, along-next, all_true, Apart, joined-apart, Merging, joined-both}

-- ---- page by page

module _ (flags : List ℕ) (p : ℕ) where
  -- past the pages there is no run
  pub dirty_past : length flags ≤ p → dirty_from flags p ≡ []
  unfolding dirty_from dirty_runs
  dirty_past h = rw (along_none (flag_at flags) (length flags) p h)

  -- a clean page is passed over
  pub dirty_clean : p < length flags → bit_and (flag_at flags p) dirty ≡ 0 → dirty_from flags p ≡ dirty_from flags (p + 1)
  unfolding dirty_from dirty_runs
  dirty_clean h z = rw (along-next (flag_at flags) (length flags) p h, eq-eqb _ _ z)

  -- a dirty page is joined to the runs of the pages after it
  pub dirty_joins : p < length flags → bit_and (flag_at flags p) dirty ≢ 0
      → dirty_from flags p ≡ join_dirty p (flag_at flags p) (dirty_from flags (p + 1))
  unfolding dirty_from dirty_runs
  dirty_joins h d = rw (along-next (flag_at flags) (length flags) p h, ne_eqb _ _ d)

-- ---- runs before runs

meet : (a b : Run) → meets a b ≡ true → (b.page ≡ a.page + a.pages) × (b.flag ≡ a.flag)
meet a b e =
    let t = all_true _ _ e in
    (eqb-true _ _ t.0, eqb-true _ _ t.1)

pub merging : Merging meets both
merging =
    record {
      end = λ a b c e.
          let t = meet a b e in
          let z : a.page + (b.pages + a.pages) ≡ b.page + b.pages = omega arith in
          rw (z, t.1);
      start = λ a b c e. refl;
      thrice = λ a b c.
          let z : c.pages + (b.pages + a.pages) ≡ c.pages + b.pages + a.pages = omega arith in
          rw z;
    }

-- a page is joined as a run of one page
pub join_is : (p f : ℕ) (l : List Run) → join_dirty p f l ≡ joined meets both (a_run p f 1) l
unfolding join_dirty neighbours joined
join_is p f [] = refl
join_is p f (r ∷ rs) = refl

-- a run, and a page of its flag after it, before others
join_page : (p f n q : ℕ) (l : List Run) → p + n ≡ q
    → joined meets both (a_run p f n) (join_dirty q f l) ≡ joined meets both (a_run p f (n + 1)) l
join_page p f n q l e =
    let z : 1 + n ≡ n + 1 = omega arith in
    ap (joined meets both (a_run p f n)) (join_is q f l)
    ∙ joined-both meets both merging (a_run p f n) (a_run q f 1) l (rw (eq-eqb q (p + n) (sym e), eq-eqb f f refl))
    ∙ rw z

-- ---- where a run ends

-- runs from page p on
unfoldable From : ℕ → List Run → Type 0
From p [] = Unit {0}
From p (r ∷ rs) = p ≤ r.page

from_later : (p q : ℕ) (l : List Run) → p ≤ q → From q l → From p l
unfolding From
from_later p q [] h l = tt
from_later p q (r ∷ rs) h l = omega arith

join_from : (p f : ℕ) (l : List Run) → From p (join_dirty p f l)
unfolding join_dirty From
join_from p f [] = omega arith
join_from p f (r ∷ rs) = cases (From p) (neighbours p f r) _ _ (λ e. omega arith) (λ e. omega arith)

runs_from : (fs : List ℕ) (p : ℕ) → From p (dirty_runs p fs)
unfolding dirty_runs From
runs_from [] p = tt
runs_from (f ∷ fs) p =
    cases (From p) (eqb (bit_and f dirty) 0) _ _
    (λ e. from_later p (p + 1) (dirty_runs (p + 1) fs) (omega arith) (runs_from fs (p + 1)))
    (λ e. join_from p f (dirty_runs (p + 1) fs))

-- runs from page p on, where a run that starts at page p has flag f
unfoldable Front : ℕ → ℕ → List Run → Type 0
Front p f [] = Unit {0}
Front p f (r ∷ rs) = r.page ≡ p → r.flag ≡ f

join_front : (p f : ℕ) (l : List Run) → Front p f (join_dirty p f l)
unfolding join_dirty Front
join_front p f [] = λ e. refl
join_front p f (r ∷ rs) = cases (Front p f) (neighbours p f r) _ _ (λ e h. refl) (λ e h. refl)

from_front : (p f : ℕ) (l : List Run) → From (p + 1) l → Front p f l
unfolding From Front
from_front p f [] h = tt
from_front p f (r ∷ rs) h = λ e. absurd (omega arith)

dirty-later : (flags : List ℕ) (p : ℕ) → From p (dirty_from flags p)
unfolding dirty_from
dirty-later flags p = runs_from (along (flag_at flags) (length flags - p) p) p

dirty_front : (flags : List ℕ) (p : ℕ) → p < length flags → Front p (flag_at flags p) (dirty_from flags p)
dirty_front flags p h = go (ℕ_discrete (bit_and (flag_at flags p) dirty) 0)
  where
    go : Dec (bit_and (flag_at flags p) dirty ≡ 0) → Front p (flag_at flags p) (dirty_from flags p)
    go (yes z) = rw (dirty_clean flags p h z) (from_front p (flag_at flags p) (dirty_from flags (p + 1)) (dirty-later flags (p + 1)))
    go (no d) = rw (dirty_joins flags p h d) (join_front p (flag_at flags p) (dirty_from flags (p + 1)))

-- a run is not joined to a page of another flag
front_apart : (p f n g : ℕ) (l : List Run) → g ≢ f → Front (p + n) g l → Apart meets both (a_run p f n) l
unfolding Front Apart
front_apart p f n g [] d h = tt
front_apart p f n g (r ∷ rs) d h =
    cases (λ b. b ≡ false) (eqb r.page (p + n)) _ _
    (λ e. ne_eqb _ _ (λ q. d (sym (h (eqb-true _ _ e)) ∙ q)))
    (λ e. refl)

-- ---- the pages of a run

-- a dirty page is a run of one page before those of the pages after it
pub dirty_single : (flags : List ℕ) (p : ℕ) → p < length flags → bit_and (flag_at flags p) dirty ≢ 0
    → dirty_from flags p ≡ joined meets both (a_run p (flag_at flags p) 1) (dirty_from flags (p + 1))
dirty_single flags p h d = dirty_joins flags p h d ∙ join_is p (flag_at flags p) (dirty_from flags (p + 1))

module _ (flags : List ℕ) (r : DirtySpan) (next : ℕ) (h : next < length flags) (ends : DirtyEnds r next) where
  -- a run stops before a page of another flag
  pub dirty_stops : flag_at flags next ≢ r.flag → dirty_before r (dirty_from flags next) ≡ run_of r ∷ dirty_from flags next
  dirty_stops d =
      joined-apart meets both (run_of r) (dirty_from flags next)
      (front_apart r.page r.flag r.pages (flag_at flags next) (dirty_from flags next) d (rw ends.0 (dirty_front flags next h)))

  -- and takes a page of its flag
  pub dirty_takes : flag_at flags next ≡ r.flag
      → dirty_before r (dirty_from flags next) ≡ dirty_before (record { page = r.page; flag = r.flag; pages = r.pages + 1 }) (dirty_from flags (next + 1))
  dirty_takes e =
      let q : bit_and (flag_at flags next) dirty ≢ 0 = rw e ends.1 in
      rw (dirty_joins flags next h q, e) (join_page r.page r.flag r.pages next (dirty_from flags (next + 1)) ends.0)
