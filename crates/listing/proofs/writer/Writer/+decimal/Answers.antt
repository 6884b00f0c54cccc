-- The last digit, alone or after those of the tenth.
use Rattle.std.proofs.Common.{rules}
use Rattle.listing.proofs.Fixed.{digit_only, digit_last, digit_fits}
use Rattle.listing.proofs.writer.Writer.+decimal.Goals as goal
use Rattle.listing.proofs.writer.Writer.+decimal.Goals.{then-n-ge10, else-n-ge10}

pub byte-requires : goal.byte-requires
byte-requires t c = elim c.if-n-ge10.branch [
  | then-n-ge10 w ↦ rw w.self-is (search (rules, digit_fits))
  | else-n-ge10 w ↦ rw w.self-is (search rules)
]

pub returns-clause-wrote : goal.returns-clause-wrote
returns-clause-wrote t c = elim c.if-n-ge10.branch [
  | then-n-ge10 w ↦ let p = rw w.self-is at c.byte.ensures.wrote in search (rules, digit_last)
  | else-n-ge10 w ↦ let p = rw w.self-is at c.byte.ensures.wrote in search (rules, digit_only)
]
