-- Invariant: the records that are left, with what is lent as it is, come to what all of them come to at entry.
use Rattle.recordfile.specs.Reader.{left}
use Rattle.tracking.specs.Answers.{tracked_in, SameTracked}
use Rattle.snapshot.proofs.RestoredRuns.{Restoring}
use Rattle.snapshot.proofs.resume.restore_runs.Given as goal

abbrev pub invariant-loop-entry : goal.invariant-loop-entry
invariant-loop-entry l = record {
  going :
      Restoring l.sources.directory.now l.sources.bytes.now l.pages (left l.fn.records) (tracked_in l.initial.tracked l.initial.memory)
      (left l.entry-iterator) (tracked_in l.tracked l.memory);
  same : SameTracked l.initial.tracked l.tracked;
}
