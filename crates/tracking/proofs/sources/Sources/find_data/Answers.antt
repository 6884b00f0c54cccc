-- Invariant: the entries from `i` on give what all of them give.
use Rattle.std.proofs.Common.{rules}
use Rattle.tracking.proofs.Lookup.{left-all, left_here, left-next, left_none}
use Rattle.tracking.proofs.sources.Sources.find_data.Goals as goal

pub loop-i-init : goal.loop-i-init
loop-i-init c = left-all _ _ _ _ _

pub returns-then-self-at : goal.returns-then-self-at
returns-then-self-at c = left_here _ _ _ _ _ _ c.loop-i.invariant (search rules) _ c.if-self-at.true c.entry_place.ensures

pub loop-i-preserved : goal.loop-i-preserved
loop-i-preserved c = left-next _ _ _ _ _ _ c.loop-i.invariant (search rules) c.if-self-at.false

pub returns : goal.returns
returns c = left_none _ _ _ _ _ _ c.loop-i.invariant (search rules)
