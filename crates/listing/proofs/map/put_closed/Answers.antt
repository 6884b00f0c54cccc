-- The pages and the runs are counted, then written.
use Rattle.std.proofs.Common.{rules}
use Rattle.listing.proofs.Drawn.{closed_put}
use Rattle.listing.proofs.map.put_closed.Goals as goal

pub returns-clause-wrote : goal.returns-clause-wrote
returns-clause-wrote c = search (rules, closed_put)
