-- A source run, a dirty run, and the others.
use Rattle.std.proofs.Common.{rules}
use Rattle.listing.proofs.Counted.{source-partly, dirty-partly, no_run}
use Rattle.listing.proofs.pages.Picture.partly_by.Goals as goal

pub returns-in-Source : goal.returns-in-Source
returns-in-Source c = search (rules, source-partly)

pub returns-in-Dirty : goal.returns-in-Dirty
returns-in-Dirty c = search (rules, dirty-partly)

pub returns-in_default : goal.returns-in_default
returns-in_default c = search (rules, no_run, c.in_default.not-Source, c.in_default.not-Dirty)
