-- Invariant: the runs that are left, after the pages of those before, come to what all of them come to.
use Rattle.recordfile.specs.Reader.{left}
use Rattle.recordfile.proofs.Judging.{RunsTo}
use Rattle.recordfile.proofs.form.runs_need.Given as goal

abbrev pub invariant-loop-entry : goal.invariant-loop-entry
invariant-loop-entry l = RunsTo (left l.fn.records) (left l.entry-iterator) l.dirty l.sum
