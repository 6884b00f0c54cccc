-- A part of the page was lent to `words::copy` or `words::fill`.
use Rattle.std.proofs.Common.{rules}
use Rattle.words.proofs.Filled.{length-filled}
use Rattle.memory.proofs.Lent.{page-copied, page-filled}
use Rattle.memory.proofs.storage.Bytes.lay.Goals as goal

pub returns-in-These : goal.returns-in-These
returns-in-These c = search (rules, page-copied)

pub returns-in-Filled : goal.returns-in-Filled
returns-in-Filled c = search (rules, page-filled, length-filled)
