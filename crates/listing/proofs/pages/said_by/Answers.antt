-- A run that covers the page, or what was said before.
use Rattle.std.proofs.Common.{rules}
use Rattle.listing.proofs.Covered.{dirty-covers, dirty-past}
use Rattle.listing.proofs.pages.said_by.Goals as goal

pub returns-in-Dirty : goal.returns-in-Dirty
returns-in-Dirty c = search (rules, dirty-covers)

pub returns-in_default-2 : goal.returns-in_default-2
returns-in_default-2 c = search (rules, dirty-past)
