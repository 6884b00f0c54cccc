-- What `list` promises of an output with room.
use Rattle.listing.proofs.Printed.{listing_printed}
use Rattle.snaplist.proofs.put_text.Goals as goal

pub returns-clause-text_after : goal.returns-clause-text_after
returns-clause-text_after c =
    (listing_printed _ _ _ _ _ c.unwrap_or.ensures c.requires c.list.ensures.out_after c.list.ensures.size_in_bounds).0
