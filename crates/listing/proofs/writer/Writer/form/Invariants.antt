-- Invariant: the form that is left, with the numbers that are left, makes the whole.
use Rattle.listing.specs.Writer.{SameOutput}
use Rattle.listing.proofs.Fixed.{Filling}
use Rattle.listing.proofs.writer.Writer.form.Given as goal

abbrev pub invariant-loop-byte : goal.invariant-loop-byte
invariant-loop-byte l = record {
  same : SameOutput l.fn.self l.self;
  fills : Filling l.fn.self.out.now l.fn.self.end l.form l.numbers l.self.out.now l.self.end l.left l.byte-index;
}
