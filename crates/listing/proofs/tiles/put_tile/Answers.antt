-- The tile of a page of a source, with its offset and without.
use Rattle.listing.specs.Texts.{text}
use Rattle.listing.proofs.Tiled.{from_put, past_put}
use Rattle.listing.proofs.tiles.put_tile.Goals as goal

pub returns-in-Some-clause-wrote : goal.returns-in-Some-clause-wrote
unfolding text
returns-in-Some-clause-wrote c = rw c.in-Source.is (from_put _ _ _ _ _ _ _ _ _ _ _ _ (rw c.start-start.ensures at c.form-in-Some.ensures.wrote) c.in-Some.ensures c.from-flag-in-Source.ensures (rw c.start-start.ensures at c.saturating_sub.ensures))

pub returns-in-None-clause-wrote : goal.returns-in-None-clause-wrote
unfolding text
returns-in-None-clause-wrote c = rw c.in-Source.is (past_put _ _ _ _ _ _ _ _ _ _ _ (rw c.start-start.ensures at c.form-in-None.ensures.wrote) c.in-None.ensures c.from-flag-in-Source.ensures (rw c.start-start.ensures at c.saturating_sub.ensures))
