-- A run stops before a page whose entry doesn't continue it, and takes one whose entry does.
use Rattle.std.proofs.Common.{arith}
use Rattle.snapshot.proofs.SourcePages.{stops_untracked, source_stops, source_takes}
use Rattle.snapshot.proofs.runs.SourcePagesPages.longer.Goals as goal
use Rattle.snapshot.proofs.runs.SourcePagesPages.longer.Goals.{then-flag-run-via-then-flag-run, then-flag-run-via-else-flag-run+then-id-run, then-flag-run-via-else-flag-run+else-id-run+then-offset-lt-PAGE, then-flag-run-via-else-flag-run+else-id-run+else-offset-lt-PAGE+then-offset-run}

pub returns-in_default-clause-value : goal.returns-in_default-clause-value
returns-in_default-clause-value c =
    stops_untracked _ _ _ _ c.requires.within c.requires.ends _ c.entry_at.ensures c.in_default.is

pub returns-then-flag-run-clause-value : goal.returns-then-flag-run-clause-value
returns-then-flag-run-clause-value c =
    let stops = source_stops _ _ _ _ c.requires.within c.requires.ends _ c.entry_at.ensures in
    elim c.then-flag-run.branch [
      | then-flag-run-via-then-flag-run w ↦ stops _ _ _ c.in-Tracked.is (λ f i o. w.if-flag-run.true f)
      | then-flag-run-via-else-flag-run+then-id-run w ↦ stops _ _ _ c.in-Tracked.is (λ f i o. w.if-id-run.true i)
      | then-flag-run-via-else-flag-run+else-id-run+then-offset-lt-PAGE w ↦ stops _ _ _ c.in-Tracked.is (λ f i o. omega arith)
      | then-flag-run-via-else-flag-run+else-id-run+else-offset-lt-PAGE+then-offset-run w ↦ stops _ _ _ c.in-Tracked.is (λ f i o. omega arith)
    ]

pub returns-clause-value : goal.returns-clause-value
returns-clause-value c =
    source_takes _ _ _ _ c.requires.within c.requires.ends _ c.entry_at.ensures _ _ _ c.in-Tracked.is c.if-flag-run.false c.if-id-run.false
    (omega arith)
