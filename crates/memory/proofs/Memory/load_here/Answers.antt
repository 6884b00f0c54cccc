-- The number in bytes of the slot.
use Rattle.std.proofs.Common.{rules, arith}
use Rattle.memory.proofs.ShortPath.{loaded-page}
use Rattle.memory.proofs.Memory.load_here.Goals as goal

pub returns : goal.returns
returns c = let k = c.in_ok-slot.ensures in loaded-page _ _ _ _ _ k.1 k.0 _ (search rules) (search rules) (omega arith) c.read_le.ensures
