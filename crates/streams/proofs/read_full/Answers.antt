use Rattle.std.proofs.Common.{rules}
use Rattle.streams.proofs.Filled.{read_more}
use Rattle.streams.proofs.read_full.Goals as goal

pub loop-done-preserved : goal.loop-done-preserved
loop-done-preserved g c =
    (search rules, read_more _ _ _ _ _ _ _ _ c.loop-done.invariant.1 c.in_ok-count.ensures.bytes.0 c.loop-done.invariant.0 c.in_ok-count.ensures.bound.0)
