use Rattle.std.proofs.Common.{rules}
use Rattle.streams.proofs.Written.{write_more}
use Rattle.streams.proofs.write_full.Goals as goal

pub loop-done-preserved : goal.loop-done-preserved
loop-done-preserved g c = (search rules, write_more _ _ _ _ _ _ c.loop-done.invariant.1 c.in_ok-count.ensures.bytes)
