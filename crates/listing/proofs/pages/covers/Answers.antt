-- The start, then the end.
use borrow.Author.Rules.{rules}
use Rattle.listing.proofs.Covered.{covers_less, covers_test}
use Rattle.listing.proofs.pages.covers.Goals as goal

pub returns-then-start-address : goal.returns-then-start-address
returns-then-start-address c = search (rules, covers_less)

pub returns : goal.returns
returns c = search (rules, covers_test)
