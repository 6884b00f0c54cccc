-- What `draw` promises of an output with room.
use Rattle.listing.proofs.Printed.{map_printed}
use Rattle.snapmap.proofs.put_map.Goals as goal

pub returns-clause-out_after : goal.returns-clause-out_after
returns-clause-out_after c =
    (map_printed _ _ _ _ _ _ c.unwrap_or.ensures c.requires.pages_le_most_pages c.requires.most_map_in_bounds c.draw.ensures.out_after c.draw.ensures.size_in_bounds).0
