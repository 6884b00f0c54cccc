-- The letter, the numbers, the line's end.
use Rattle.std.proofs.Common.{rules}
use Rattle.listing.proofs.Spaced.{spacing_all, spacing_next, spacing_done}
use Rattle.listing.proofs.writer.Writer.line.Goals as goal

pub loop-n-init : goal.loop-n-init
loop-n-init c = search (rules, spacing_all)

pub loop-n-preserved : goal.loop-n-preserved
loop-n-preserved c = search (rules, spacing_next)

pub returns-clause-wrote : goal.returns-clause-wrote
returns-clause-wrote c = search (rules, spacing_done)
