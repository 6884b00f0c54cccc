-- Each test of the page's slot decides one case of `met`.
use Rattle.std.proofs.Common.{rules}
use Rattle.memory.proofs.Loads.{met-past, met-absent, met-used, met_unused}
use Rattle.memory.proofs.meet.Goals as goal

pub returns-then-page-slots : goal.returns-then-page-slots
returns-then-page-slots c = search (rules, met-past)

pub returns-then-slot-eq-INVALID_PAGE_INDEX : goal.returns-then-slot-eq-INVALID_PAGE_INDEX
returns-then-slot-eq-INVALID_PAGE_INDEX c = search (rules, met-absent)

pub returns-then-slot-used : goal.returns-then-slot-used
returns-then-slot-used c = search (rules, met-used)

pub returns : goal.returns
returns c = search (rules, met_unused)
