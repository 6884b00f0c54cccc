-- What stands before the tiles, the tiles, what stands after them.
use Rattle.std.proofs.Common.{rules}
use Rattle.listing.proofs.Drawn.{drawn_put}
use Rattle.listing.proofs.map.put_map.Goals as goal

pub returns-clause-wrote : goal.returns-clause-wrote
returns-clause-wrote c = search (rules, drawn_put)
