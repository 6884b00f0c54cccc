-- The pages, the room, then the form: the picture, or its refusal.
use Rattle.std.proofs.Common.{rules}
use Rattle.listing.proofs.Judged.{inside-line}
use Rattle.listing.proofs.Drawn.{pages-past, room-short, map-malformed, map-formed}
use Rattle.listing.proofs.map.draw.Goals as goal

pub returns-then-pages-gt-MOST_PAGES-clause-out_after : goal.returns-then-pages-gt-MOST_PAGES-clause-out_after
returns-then-pages-gt-MOST_PAGES-clause-out_after c = search (rules, pages-past)

pub returns-then-out-lt-MOST_MAP-clause-out_after : goal.returns-then-out-lt-MOST_MAP-clause-out_after
returns-then-out-lt-MOST_MAP-clause-out_after c = search (rules, room-short)

pub returns-in-Err-clause-out_after : goal.returns-in-Err-clause-out_after
returns-in-Err-clause-out_after c = map-malformed _ _ _ (search rules) (search rules) _ _ _ c.in-Err.ensures (search rules) (search rules)

pub returns-in-Err-clause-size_in_bounds : goal.returns-in-Err-clause-size_in_bounds
returns-in-Err-clause-size_in_bounds c = search (rules, inside-line)

pub returns-clause-out_after : goal.returns-clause-out_after
returns-clause-out_after c = search (rules, map-formed)
