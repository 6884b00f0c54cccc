-- An absent page and a place past the area read as zero; another byte stands in the page's slot.
use Rattle.std.proofs.Common.{rules}
use Rattle.memory.proofs.Span.{byte-absent, byte-there, byte_past}
use Rattle.memory.proofs.storage.Lent.byte_at.Goals as goal

pub returns-then-slot-eq-INVALID_PAGE_INDEX : goal.returns-then-slot-eq-INVALID_PAGE_INDEX
returns-then-slot-eq-INVALID_PAGE_INDEX c = search (rules, byte-absent)

pub returns-then-at-self : goal.returns-then-at-self
returns-then-at-self c = search (rules, byte-there)

pub returns-else-at-self : goal.returns-else-at-self
returns-else-at-self c = search (rules, byte_past)
