-- One digit after another.
use Rattle.std.proofs.Common.{rules}
use Rattle.snapmap.proofs.Numerals.{reading_next, reading_stops}
use Rattle.snapmap.proofs.pages_in.Goals as goal

pub returns-in_err-pages : goal.returns-in_err-pages
returns-in_err-pages c =
    rw c.from_residual.ensures (reading_stops _ _ _ c.loop-byte.invariant c.loop-byte-test.true c.in_err-pages.ensures)

pub loop-byte-preserved : goal.loop-byte-preserved
loop-byte-preserved c = search (rules, reading_next, c.in_ok-pages.ensures)
