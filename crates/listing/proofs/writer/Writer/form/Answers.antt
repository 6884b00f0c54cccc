-- A byte that is no gap, a gap with no number left, and the next number.
use Rattle.std.proofs.Common.{rules}
use Rattle.listing.proofs.Fixed.{filling_plain, filling_spent, filling_number, filling_done}
use Rattle.listing.proofs.writer.Writer.form.Goals as goal

pub loop-byte-preserved-then-byte-ne-GAP : goal.loop-byte-preserved-then-byte-ne-GAP
loop-byte-preserved-then-byte-ne-GAP c = search (rules, filling_plain)

pub loop-byte-preserved-in_default : goal.loop-byte-preserved-in_default
loop-byte-preserved-in_default c = search (rules, filling_spent, c.in_default.ensures.cases)

pub loop-byte-preserved : goal.loop-byte-preserved
loop-byte-preserved c = search (rules, filling_number, c.in-Some.ensures.cases)

pub returns-clause-wrote : goal.returns-clause-wrote
returns-clause-wrote c = search (rules, filling_done)
