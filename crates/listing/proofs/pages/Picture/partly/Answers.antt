-- The address, the size, the end.
use borrow.Author.Rules.{rules}
use Rattle.listing.proofs.Counted.{partly-address, partly-size, partly-past, partly-long, partly_none}
use Rattle.listing.proofs.pages.Picture.partly.Goals as goal

pub returns-then-address-ne0 : goal.returns-then-address-ne0
returns-then-address-ne0 c = search (rules, partly-address)

pub returns-then-size-ne0 : goal.returns-then-size-ne0
returns-then-size-ne0 c = search (rules, partly-size)

pub returns-then-end-address : goal.returns-then-end-address
returns-then-end-address c = search (rules, partly-past)

pub returns-then-end-address-2 : goal.returns-then-end-address-2
returns-then-end-address-2 c = search (rules, partly-long)

pub returns : goal.returns
returns c = search (rules, partly_none)
