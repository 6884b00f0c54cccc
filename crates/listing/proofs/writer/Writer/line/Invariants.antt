-- Invariant: the numbers that are left and the line's end make the whole.
use Rattle.listing.specs.Writer.{SameOutput}
use Rattle.listing.proofs.Spaced.{Spacing}
use Rattle.listing.proofs.writer.Writer.line.Given as goal

abbrev pub invariant-loop-n : goal.invariant-loop-n
invariant-loop-n l = record {
  same : SameOutput l.fn.self l.self;
  spaces : Spacing l.fn.self.out.now l.fn.self.end l.letter l.numbers l.self.out.now l.self.end l.n-index;
}
