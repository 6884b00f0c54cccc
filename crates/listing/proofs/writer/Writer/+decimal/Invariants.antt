-- Measure: the number.
use Rattle.listing.proofs.writer.Writer.+decimal.Given as goal

abbrev pub decreases-decimal : goal.decreases-decimal
decreases-decimal l = l.n
