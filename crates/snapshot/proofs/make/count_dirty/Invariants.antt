-- The runs passed are met and counted, and what is left decides.
use Rattle.snapshot.specs.Runs.{dirty_from}
use Rattle.snapshot.proofs.Counting.{Counting}
use Rattle.snapshot.proofs.make.count_dirty.Given as goal

abbrev pub invariant-loop-run : goal.invariant-loop-run
invariant-loop-run l =
    Counting l.tracked.slots.now l.tracked.flags.now l.used l.runs l.pages (dirty_from l.run-iterator.pages.flags.now l.run-iterator.at)
