-- The others of so many of one value.
use Rattle.std.proofs.Common.{rules}
use Rattle.memory.proofs.Stored.{filled_some, filled_after}
use Rattle.memory.proofs.storage.Bytes.after.Goals as goal

pub overflow_sub-result : goal.overflow_sub-result
overflow_sub-result c = filled_some _ _ _ c.in-Filled.is _ c.requires

pub returns-in-Filled : goal.returns-in-Filled
returns-in-Filled c = search (rules, filled_after)
