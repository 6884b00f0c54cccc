-- The slot was lent, and bytes were laid into it.
use Rattle.std.proofs.Common.{rules}
use Rattle.memory.proofs.Lent.{slot_written}
use Rattle.memory.proofs.storage.Storage.write.Goals as goal

pub returns-clause-area : goal.returns-clause-area
returns-clause-area c = search (rules, slot_written)
