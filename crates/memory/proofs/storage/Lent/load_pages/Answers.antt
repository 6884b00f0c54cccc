-- The first i bytes of the output are those from the address on.
use Rattle.std.proofs.Common.{rules}
use Rattle.memory.proofs.Span.{filling_none, filling_more}
use Rattle.memory.proofs.storage.Lent.load_pages.Goals as goal

pub loop-i-init : goal.loop-i-init
loop-i-init c = search (rules, filling_none)

pub loop-i-preserved : goal.loop-i-preserved
loop-i-preserved c = search (rules, filling_more)
