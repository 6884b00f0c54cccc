-- Zeros where the page is absent or its slot past the area, else a copy of the slot's bytes.
use Rattle.std.proofs.Common.{rules}
use Rattle.memory.proofs.Span.{part-absent, part-past, part-copied}
use Rattle.memory.proofs.storage.Lent.load_part.Goals as goal

pub returns-then-slot-eq-INVALID_PAGE_INDEX : goal.returns-then-slot-eq-INVALID_PAGE_INDEX
returns-then-slot-eq-INVALID_PAGE_INDEX c = search (rules, part-absent)

pub returns-then-start-self : goal.returns-then-start-self
returns-then-start-self c = search (rules, part-past)

pub returns : goal.returns
returns c = search (rules, part-copied)
