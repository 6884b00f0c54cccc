-- Runs of pages as the code finds them: a run, page after page, before those of the pages after it.
use Rattle.std.specs.Prelude.{Bool, false, cond, List, [], ◌∷◌, ℕ, ◌+◌, ◌*◌, ◌≡◌, ◌≢◌, refl, eqb}
use Rattle.std.specs.Int.Bits.{bit_and}
use Rattle.bits.specs.Rounding.{page_size}
use Rattle.memory.specs.Pages.{dirty}
use Rattle.recordfile.specs.Snapshots.{SourceRun, source_run}
use Rattle.snapshot.specs.Runs.{Run, a_run, continues}
use Rattle.snapshot.specs.declared.runs.DirtySpan.{DirtySpan}
use Rattle.snapshot.specs.declared.runs.SourceSpan.{SourceSpan}

-- the pages that are passed over together
abbrev pub group : ℕ
group = 32

-- a run before others: merged with the first where they meet
unfoldable pub joined : {R : Type 0} → (R → R → Bool) → (R → R → R) → R → List R → List R
joined meets both r [] = r ∷ []
joined meets both r (s ∷ ss) = cond (meets r s) (both r s ∷ ss) (r ∷ s ∷ ss)

pub joined_alone : {R : Type 0} (meets : R → R → Bool) (both : R → R → R) (r : R) → joined meets both r [] ≡ r ∷ []
unfolding joined
joined_alone meets both r = refl

-- ---- dirty pages

-- a run whose pages follow those of another, with its flag
abbrev pub meets : Run → Run → Bool
meets a b = cond (eqb b.page (a.page + a.pages)) (eqb b.flag a.flag) false

abbrev pub both : Run → Run → Run
both a b = a_run a.page a.flag (b.pages + a.pages)

abbrev pub run_of : DirtySpan → Run
run_of r = a_run r.page r.flag r.pages

abbrev pub dirty_before : DirtySpan → List Run → List Run
dirty_before r l = joined meets both (run_of r) l

-- a run of a dirty page's flag that ends before this page
abbrev pub DirtyEnds : DirtySpan → ℕ → Type 0
DirtyEnds r next = (r.page + r.pages ≡ next) × (bit_and r.flag dirty ≢ 0)

-- ---- tracked clean pages

abbrev pub both_sources : SourceRun → SourceRun → SourceRun
both_sources r s = source_run r.address r.flag r.id r.offset (r.size + s.size)

abbrev pub source_of : SourceSpan → SourceRun
source_of r = source_run (r.page * page_size) r.flag r.id r.offset (r.pages * page_size)

abbrev pub source_before : SourceSpan → List SourceRun → List SourceRun
source_before r l = joined continues both_sources (source_of r) l

-- a run that ends before this page, with the offset of its last page
abbrev pub SourceEnds : SourceSpan → ℕ → Type 0
SourceEnds r next = (r.page + r.pages ≡ next) × (r.last + page_size ≡ r.offset + r.pages * page_size)
