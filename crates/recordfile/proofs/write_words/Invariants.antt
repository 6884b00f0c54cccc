-- Invariant: the words that are left make the whole.
use Rattle.recordfile.specs.Words.{record_words}
use Rattle.recordfile.proofs.Decoding.{WrittenTo}
use Rattle.recordfile.proofs.write_words.Given as goal

abbrev pub invariant-loop-i : goal.invariant-loop-i
invariant-loop-i l = WrittenTo l.initial.file l.at l.words record_words l.file l.i
