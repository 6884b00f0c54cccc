-- The runs of a snapshot: pages ascending, neighbours merged.
use Rattle.std.specs.Prelude.{Bool, false, cond, List, [], ◌∷◌, ℕ, ◌+◌, ◌-◌, ◌*◌, length, get_or, eqb}
use Rattle.std.specs.Int.Bits.{bit_and}
use Rattle.bits.specs.Rounding.{page_size}
use Rattle.program.specs.Program.{along}
use Rattle.memory.specs.Pages.{dirty}
use Rattle.recordfile.specs.Snapshots.{SourceRun, source_run}
use Rattle.tracking.specs.declared.records.Tracking.{Tracking}
use Rattle.tracking.specs.declared.records.Tracking.TheVariants.{Untracked, Tracked}
use Rattle.tracking.specs.Operations.{entry_in}

-- ---- dirty pages

-- pages of one flag: the first, and how many
pub record Run : Type 0 where
  pub page : ℕ
  pub flag : ℕ
  pub pages : ℕ

abbrev pub a_run : ℕ → ℕ → ℕ → Run
a_run p f n = record { page = p; flag = f; pages = n }

-- "merging neighbours of equal flag": a page before a run
unfoldable pub neighbours : ℕ → ℕ → Run → Bool
neighbours p f r = cond (eqb r.page (p + 1)) (eqb r.flag f) false

unfoldable pub join_dirty : ℕ → ℕ → List Run → List Run
join_dirty p f [] = a_run p f 1 ∷ []
join_dirty p f (r ∷ rs) = cond (neighbours p f r) (a_run p f (r.pages + 1) ∷ rs) (a_run p f 1 ∷ r ∷ rs)

-- "A snapshot takes dirty pages ascending, merging neighbours of equal flag": of the flags from page p on
unfoldable pub dirty_runs : ℕ → List ℕ → List Run
dirty_runs p [] = []
dirty_runs p (f ∷ fs) = cond (eqb (bit_and f dirty) 0) (dirty_runs (p + 1) fs) (join_dirty p f (dirty_runs (p + 1) fs))

-- the pages of runs
unfoldable pub total : List Run → ℕ
total [] = 0
total (r ∷ rs) = r.pages + total rs

-- ---- tracked clean pages

-- "equal recorded flag and id whose offsets continue"
unfoldable pub continues : SourceRun → SourceRun → Bool
continues r s =
    cond (eqb s.address (r.address + r.size))
    (cond (eqb s.flag r.flag) (cond (eqb s.id r.id) (eqb s.offset (r.offset + r.size)) false) false)
    false

unfoldable pub join_source : SourceRun → List SourceRun → List SourceRun
join_source r [] = r ∷ []
join_source r (s ∷ rs) =
    cond (continues r s) (source_run r.address r.flag r.id r.offset (r.size + s.size) ∷ rs) (r ∷ s ∷ rs)

-- one page's run; "The flag of a source run is the recorded one."
abbrev pub page_run : ℕ → ℕ → ℕ → ℕ → SourceRun
page_run p flag id offset = source_run (p * page_size) flag id offset page_size

-- "then tracked clean pages ascending, merging neighbours of equal recorded flag and id whose offsets continue": of the source
-- entries from page p on, in which a dirty page shows nothing
unfoldable pub source_runs : ℕ → List Tracking → List SourceRun
source_runs p [] = []
source_runs p (Untracked ∷ ts) = source_runs (p + 1) ts
source_runs p (Tracked id offset flag ∷ ts) = join_source (page_run p flag id offset) (source_runs (p + 1) ts)

-- ---- of lent lists, from page p on

abbrev pub flag_at : List ℕ → ℕ → ℕ
flag_at flags p = get_or flags p 0

unfoldable pub dirty_from : List ℕ → ℕ → List Run
dirty_from flags p = dirty_runs p (along (flag_at flags) (length flags - p) p)

unfoldable pub sources_from : List ℕ → List ℕ → ℕ → List SourceRun
sources_from flags records p = source_runs p (along (entry_in flags records) (length flags - p) p)
