-- Invariant: the tiles of the pages that are left, drawn from here on, make the whole.
use Rattle.std.proofs.Common.{rules}
use Rattle.listing.proofs.Tiled.{drawing_next, drawing_done}
use Rattle.listing.proofs.tiles.put_tiles.Goals as goal

pub loop-number-preserved : goal.loop-number-preserved
loop-number-preserved c = search (rules, drawing_next)

pub returns-clause-wrote : goal.returns-clause-wrote
returns-clause-wrote c = search (rules, drawing_done)
