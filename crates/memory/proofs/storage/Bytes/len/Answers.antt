-- So many of one value.
use Rattle.std.proofs.Common.{rules}
use Rattle.memory.proofs.Stored.{filled_len}
use Rattle.memory.proofs.storage.Bytes.len.Goals as goal

pub returns-in-Filled : goal.returns-in-Filled
returns-in-Filled c = search (rules, filled_len)
