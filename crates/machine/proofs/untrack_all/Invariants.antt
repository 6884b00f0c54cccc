-- `untrack_all`: the words before the one that is written next are 0, the others as they were.
use Rattle.std.proofs.Common.{◌≡◌, ◌++◌, drop}
use Rattle.words.specs.Bytes.{filled}
use Rattle.machine.proofs.untrack_all.Given as goal

abbrev pub invariant-loop-word : goal.invariant-loop-word
invariant-loop-word l = l.word-items ≡ filled l.word-index 0 ++ drop l.word-index l.initial.word-items
