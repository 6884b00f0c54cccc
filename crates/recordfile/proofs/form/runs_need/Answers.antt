-- A source run after a dirty one, a dirty run past 2^64-1 pages, a place that is not the sum, a record that is no run; and the next run.
use Rattle.std.proofs.Common.{rules}
use Rattle.recordfile.proofs.Judging.{runs-end, runs-other, runs-late, runs-source, runs-past, runs-apart, runs-next}
use Rattle.recordfile.proofs.form.runs_need.Goals as goal

pub returns-then-dirty : goal.returns-then-dirty
returns-then-dirty c = search (rules, runs-late, c.in-Some.ensures)

pub loop-entry-preserved-else-dirty : goal.loop-entry-preserved-else-dirty
loop-entry-preserved-else-dirty c = search (rules, runs-source, c.in-Some.ensures)

pub returns-in_default-sum : goal.returns-in_default-sum
returns-in_default-sum c = search (rules, runs-past, c.in-Some.ensures)

pub returns-then-place-before : goal.returns-then-place-before
returns-then-place-before c = search (rules, runs-apart, c.in-Some.ensures)

pub loop-entry-preserved : goal.loop-entry-preserved
loop-entry-preserved c = search (rules, runs-next, c.in-Some.ensures)

pub returns-in_default : goal.returns-in_default
returns-in_default c = search (rules, runs-other, c.in-Some.ensures)

pub returns : goal.returns
returns c = search (rules, runs-end, c.in-None.ensures)
