-- The first of so many of one value.
use Rattle.std.proofs.Common.{rules}
use Rattle.memory.proofs.Stored.{filled_first}
use Rattle.memory.proofs.storage.Bytes.first.Goals as goal

pub returns-in-Filled : goal.returns-in-Filled
returns-in-Filled c = search (rules, filled_first)
