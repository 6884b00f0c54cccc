-- Nothing is done, or the bytes are copied into the page's slot.
use Rattle.std.proofs.Common.{rules}
use Rattle.memory.proofs.ShortPath.{stored-page}
use Rattle.memory.proofs.Memory.store_here.Goals as goal

pub returns-clause-value : goal.returns-clause-value
returns-clause-value c = let k = rw (c.lent.ensures.slots, c.lent.ensures.flags, c.lent.ensures.area, c.len-n.ensures) at c.in-Some.ensures in
    rw c.write.ensures.slots (stored-page _ _ _ _ _ _ _ _ _ _ k.1 k.0 (search rules) (search rules) c.write.ensures.flags c.write.ensures.area)
