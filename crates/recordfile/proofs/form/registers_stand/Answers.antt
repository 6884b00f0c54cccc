-- A record that is missing, of another kind, with another number; and the next one.
use Rattle.std.proofs.Common.{rules}
use Rattle.recordfile.proofs.Judging.{registers-none, registers-other, registers-apart, registers-next, registers-end}
use Rattle.recordfile.proofs.form.registers_stand.Goals as goal

pub returns-in_default : goal.returns-in_default
returns-in_default c = registers-none _ _ _ c.loop-i.invariant c.loop-i-test.true (rw c.in_default.is at c.next.ensures.steps).0.0

pub returns-in_default-entry : goal.returns-in_default-entry
returns-in_default-entry c = search (rules, registers-other, c.in-Some.ensures)

pub returns-then-first-i : goal.returns-then-first-i
returns-then-first-i c = search (rules, registers-apart, c.in-Some.ensures)

pub loop-i-preserved : goal.loop-i-preserved
loop-i-preserved c = search (rules, registers-next, c.in-Some.ensures)

pub returns : goal.returns
returns c = search (rules, registers-end)
