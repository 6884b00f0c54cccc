-- `words::fill`: the bytes before the one that is written next are the value, the others as they were.
use Rattle.std.proofs.Common.{◌≡◌, ◌++◌, drop}
use Rattle.words.specs.Bytes.{filled}
use Rattle.words.proofs.fill.Given as goal

abbrev pub invariant-loop-byte : goal.invariant-loop-byte
invariant-loop-byte l = l.byte-items ≡ filled l.byte-index l.value ++ drop l.byte-index l.initial.byte-items
