-- The runs of tracked clean pages from a page on: page by page, and a run at a time.
use mathlib.Core.Path.{◌≡◌, refl, sym, ap, ◌∙◌}
use mathlib.Core.Bool.{Bool, true, false}
use mathlib.Core.List.{List, [], ◌∷◌}
use mathlib.Core.Logic.{◌≢◌}
use Prim.Native.Nat.{ℕ, ◌+◌, ◌-◌, ◌*◌, ◌≤◌, ◌<◌}
use native.Mathlib.Omega.{arith}
use lib.Dec.{eqb}
use lib.ListN.{length}
use borrow.Author.Tests.{eq-eqb, eqb-true}
use Rattle.bits.specs.Rounding.{page_size}
use Rattle.program.specs.Program.{along}
use Rattle.memory.proofs.StoreCases.{cases}
use Rattle.recordfile.specs.Snapshots.{SourceRun, source_run}
use Rattle.tracking.specs.declared.records.Tracking.{Tracking}
use Rattle.tracking.specs.declared.records.Tracking.TheVariants.{Untracked, Tracked}
use Rattle.tracking.specs.Operations.{entry_in}
use Rattle.snapshot.specs.Runs.{continues, join_source, page_run, source_runs, sources_from}
use Rattle.snapshot.specs.Walk.{joined, both_sources, source_of, source_before, SourceEnds}
use Rattle.snapshot.specs.declared.runs.SourceSpan.{SourceSpan}
use Rattle.snapshot.proofs.Joining.{along_none, along-next, all_true, Apart, joined-apart, Merging, joined-both}

-- ---- page by page

module _ (flags records : List ℕ) (p : ℕ) where
  -- past the pages there is no run
  pub sources_past : length flags ≤ p → sources_from flags records p ≡ []
  unfolding sources_from source_runs
  sources_past h = rw (along_none (entry_in flags records) (length flags) p h)

  module _ (h : p < length flags) where
    -- an untracked page is passed over
    pub sources_untracked : entry_in flags records p ≡ Untracked → sources_from flags records p ≡ sources_from flags records (p + 1)
    unfolding sources_from source_runs
    sources_untracked e = rw (along-next (entry_in flags records) (length flags) p h, e)

    -- a tracked page is joined to the runs of the pages after it
    pub sources_joins : (id offset flag : ℕ) → entry_in flags records p ≡ Tracked id offset flag
        → sources_from flags records p ≡ join_source (page_run p flag id offset) (sources_from flags records (p + 1))
    unfolding sources_from source_runs
    sources_joins id offset flag e = rw (along-next (entry_in flags records) (length flags) p h, e)

-- ---- runs before runs

-- what it is that one run continues another
record Meet (r s : SourceRun) : Type 0 where
  its_address : s.address ≡ r.address + r.size
  its_flag : s.flag ≡ r.flag
  its_id : s.id ≡ r.id
  its_offset : s.offset ≡ r.offset + r.size

meet : (r s : SourceRun) → continues r s ≡ true → Meet r s
unfolding continues
meet r s e =
    let a = all_true (eqb s.address (r.address + r.size)) _ e in
    let b = all_true (eqb s.flag r.flag) _ a.1 in
    let c = all_true (eqb s.id r.id) _ b.1 in
    record {
      its_address = eqb-true _ _ a.0;
      its_flag = eqb-true _ _ b.0;
      its_id = eqb-true _ _ c.0;
      its_offset = eqb-true _ _ c.1;
    }

pub merging : Merging continues both_sources
unfolding continues
merging =
    record {
      end = λ a b c e.
          let t = meet a b e in
          let y = t.its_address in
          let x = t.its_offset in
          let z : a.address + (a.size + b.size) ≡ b.address + b.size = omega arith in
          let w : a.offset + (a.size + b.size) ≡ b.offset + b.size = omega arith in
          rw (z, w, t.its_flag, t.its_id);
      start = λ a b c e. refl;
      thrice = λ a b c.
          let z : a.size + b.size + c.size ≡ a.size + (b.size + c.size) = omega arith in
          rw z;
    }

pub join_is : (r : SourceRun) (l : List SourceRun) → join_source r l ≡ joined continues both_sources r l
unfolding join_source joined
join_is r [] = refl
join_is r (s ∷ ss) = refl

-- a run, and the page that continues it, before others
join_page : (p q flag id offset at n : ℕ) (l : List SourceRun) → p + n ≡ q → at + page_size ≡ offset + n * page_size
    → joined continues both_sources (source_run (p * page_size) flag id offset (n * page_size)) (join_source (page_run q flag id (at + page_size)) l)
    ≡ joined continues both_sources (source_run (p * page_size) flag id offset ((n + 1) * page_size)) l
unfolding continues
join_page p q flag id offset at n l e o =
    let r : SourceRun = source_run (p * page_size) flag id offset (n * page_size) in
    let s : SourceRun = page_run q flag id (at + page_size) in
    let y : q * page_size ≡ p * page_size + n * page_size = omega arith in
    let z : n * page_size + page_size ≡ (n + 1) * page_size = omega arith in
    ap (joined continues both_sources r) (join_is s l)
    ∙ joined-both continues both_sources merging r s l
    (rw (eq-eqb (q * page_size) _ y, eq-eqb flag flag refl, eq-eqb id id refl, eq-eqb (at + page_size) _ o))
    ∙ rw z

-- ---- where a run ends

-- runs from page p on
unfoldable From : ℕ → List SourceRun → Type 0
From p [] = Unit {0}
From p (s ∷ ss) = p * page_size ≤ s.address

from_later : (p q : ℕ) (l : List SourceRun) → p ≤ q → From q l → From p l
unfolding From
from_later p q [] h l = tt
from_later p q (s ∷ ss) h l = omega arith

-- runs from page p on, where a run that starts at page p is its entry's
unfoldable Front : ℕ → Tracking → List SourceRun → Type 0
Front p e [] = Unit {0}
Front p e (s ∷ ss) = s.address ≡ p * page_size → e ≡ Tracked s.id s.offset s.flag

from_front : (p : ℕ) (e : Tracking) (l : List SourceRun) → From (p + 1) l → Front p e l
unfolding From Front
from_front p e [] h = tt
from_front p e (s ∷ ss) h = λ z. absurd (omega arith)

module _ (p flag id offset : ℕ) where
  join_from : (l : List SourceRun) → From p (join_source (page_run p flag id offset) l)
  unfolding join_source From
  join_from [] = omega arith
  join_from (s ∷ ss) = cases (From p) (continues (page_run p flag id offset) s) _ _ (λ e. omega arith) (λ e. omega arith)

  join_front : (l : List SourceRun) → Front p (Tracked id offset flag) (join_source (page_run p flag id offset) l)
  unfolding join_source Front
  join_front [] = λ e. refl
  join_front (s ∷ ss) =
      cases (Front p (Tracked id offset flag)) (continues (page_run p flag id offset) s) _ _ (λ e h. refl) (λ e h. refl)

runs_from : (ts : List Tracking) (p : ℕ) → From p (source_runs p ts)
unfolding source_runs From
runs_from [] p = tt
runs_from (Untracked ∷ ts) p = from_later p (p + 1) (source_runs (p + 1) ts) (omega arith) (runs_from ts (p + 1))
runs_from (Tracked id offset flag ∷ ts) p = join_from p flag id offset (source_runs (p + 1) ts)

module _ (flags records : List ℕ) where
  sources-later : (p : ℕ) → From p (sources_from flags records p)
  unfolding sources_from
  sources-later p = runs_from (along (entry_in flags records) (length flags - p) p) p

  sources-front : (p : ℕ) → p < length flags → Front p (entry_in flags records p) (sources_from flags records p)
  sources-front p h = go (entry_in flags records p) refl
    where
      go : (e : Tracking) → entry_in flags records p ≡ e → Front p e (sources_from flags records p)
      go Untracked q =
          rw (sources_untracked flags records p h q)
          (from_front p Untracked (sources_from flags records (p + 1)) (sources-later (p + 1)))
      go (Tracked id offset flag) q =
          rw (sources_joins flags records p h id offset flag q) (join_front p flag id offset (sources_from flags records (p + 1)))

-- a run is not joined to a page whose entry isn't the next that continues it
front_apart : (p q flag id offset at n : ℕ) (e : Tracking) (l : List SourceRun) → p + n ≡ q → at + page_size ≡ offset + n * page_size
    → e ≢ Tracked id (at + page_size) flag → Front q e l
    → Apart continues both_sources (source_run (p * page_size) flag id offset (n * page_size)) l
unfolding Front Apart
front_apart p q flag id offset at n e [] z o d h = tt
front_apart p q flag id offset at n e (s ∷ ss) z o d h = go (continues r s) refl
  where
    r : SourceRun
    r = source_run (p * page_size) flag id offset (n * page_size)

    go : (b : Bool) → continues r s ≡ b → b ≡ false
    go false c = refl
    go true c =
        let t = meet r s c in
        let x = t.its_address in
        let y : s.address ≡ q * page_size = omega arith in
        absurd (d (rw (o, ← t.its_id, ← t.its_flag, ← t.its_offset) (h y)))

-- ---- the pages of a run

-- a page with no entry is passed over
pub source_none : (flags records : List ℕ) (p : ℕ) → p < length flags → (e : Tracking) → e ≡ entry_in flags records p → e ≡ Untracked
    → sources_from flags records p ≡ sources_from flags records (p + 1)
source_none flags records p h e q is = sources_untracked flags records p h (sym q ∙ is)

-- a tracked page is a run of one page before those of the pages after it
pub source_single : (flags records : List ℕ) (p : ℕ) → p < length flags → (e : Tracking) → e ≡ entry_in flags records p
    → (id offset flag : ℕ) → e ≡ Tracked id offset flag
    → sources_from flags records p
    ≡ source_before (record { page = p; flag = flag; id = id; offset = offset; pages = 1; last = offset }) (sources_from flags records (p + 1))
source_single flags records p h e q id offset flag is =
    sources_joins flags records p h id offset flag (sym q ∙ is) ∙ join_is (page_run p flag id offset) (sources_from flags records (p + 1))

module _ (flags records : List ℕ) (r : SourceSpan) (next : ℕ) (h : next < length flags) (ends : SourceEnds r next) (e : Tracking)
    (q : e ≡ entry_in flags records next) where
  -- a run stops before a page whose entry doesn't continue it
  other_stops : e ≢ Tracked r.id (r.last + page_size) r.flag
      → source_before r (sources_from flags records next) ≡ source_of r ∷ sources_from flags records next
  other_stops d =
      joined-apart continues both_sources (source_of r) (sources_from flags records next)
      (front_apart r.page next r.flag r.id r.offset r.last r.pages e (sources_from flags records next) ends.0 ends.1 d
      (rw q (sources-front flags records next h)))

  pub stops_untracked : e ≡ Untracked → source_before r (sources_from flags records next) ≡ source_of r ∷ sources_from flags records next
  stops_untracked u = other_stops (λ (t : e ≡ Tracked r.id (r.last + page_size) r.flag). let z : ◌≡◌ {A = ℕ} 0 1 = cc in omega arith)

  module _ (id offset flag : ℕ) (is : e ≡ Tracked id offset flag) where
    pub source_stops : (flag ≡ r.flag → id ≡ r.id → offset ≡ r.last + page_size → ⊥)
        → source_before r (sources_from flags records next) ≡ source_of r ∷ sources_from flags records next
    source_stops d = other_stops (λ (t : e ≡ Tracked r.id (r.last + page_size) r.flag). d (cc) (cc) (cc))

    -- and takes one whose entry does
    pub source_takes : flag ≡ r.flag → id ≡ r.id → offset ≡ r.last + page_size
        → source_before r (sources_from flags records next) ≡ source_before (
        record { page = r.page; flag = r.flag; id = r.id; offset = r.offset; pages = r.pages + 1; last = offset }
        ) (sources_from flags records (next + 1))
    source_takes f i o =
        let t : entry_in flags records next ≡ Tracked r.id (r.last + page_size) r.flag = rw (← f, ← i, ← o) (sym q ∙ is) in
        rw (sources_joins flags records next h r.id (r.last + page_size) r.flag t)
        (join_page r.page next r.flag r.id r.offset r.last r.pages (sources_from flags records (next + 1)) ends.0 ends.1)
