-- The record that stands there is the next register record.
use Rattle.std.proofs.Common.{rules}
use Rattle.snapshot.proofs.RestoredRuns.{read_other, read_next}
use Rattle.snapshot.proofs.resume.registers_in.Goals as goal

pub unreachable-requires-in_default-entry : goal.unreachable-requires-in_default-entry
unreachable-requires-in_default-entry c =
    read_other _ _ _ _ c.loop-i.invariant c.requires (search rules) _ _ c.in-Some.ensures.steps.0 (search rules)

pub loop-i-preserved : goal.loop-i-preserved
loop-i-preserved c = search (rules, read_next, c.in-Some.ensures)
