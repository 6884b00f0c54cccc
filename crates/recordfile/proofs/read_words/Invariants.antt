-- Invariant: the words read and those that are left are all of them.
use Rattle.recordfile.specs.Words.{record_words}
use Rattle.recordfile.proofs.Decoding.{ReadTo}
use Rattle.recordfile.proofs.read_words.Given as goal

abbrev pub invariant-loop-i : goal.invariant-loop-i
invariant-loop-i l = ReadTo l.file l.at record_words l.words l.i
