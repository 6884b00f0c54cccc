-- Invariant: the digits that are left, on the number so far, come to what the word does.
use Rattle.snapmap.proofs.Numerals.{Reading}
use Rattle.snapmap.proofs.pages_in.Given as goal

abbrev pub invariant-loop-byte : goal.invariant-loop-byte
invariant-loop-byte l = Reading l.word l.pages l.byte-index
