-- Invariant: the records that are left say, after what was said before them, what all do.
use Rattle.std.proofs.Common.{rules}
use Rattle.recordfile.proofs.WholeFile.{left-all}
use Rattle.listing.proofs.Covered.{saying_all, saying_next, saying_done}
use Rattle.listing.proofs.pages.said_of.Goals as goal

pub loop-entry-init : goal.loop-entry-init
loop-entry-init c = search (rules, saying_all, left-all)

pub loop-entry-preserved : goal.loop-entry-preserved
loop-entry-preserved c = search (rules, saying_next, c.in-Some.ensures)

pub returns : goal.returns
returns c = search (rules, saying_done, c.in-None.ensures)
