-- `clear_slots`: the slots before the one that is written next are absent, the others as they were.
use Rattle.std.proofs.Common.{◌≡◌, ◌++◌, drop}
use Rattle.words.specs.Bytes.{filled}
use Rattle.memory.specs.Storage.{absent}
use Rattle.memory.proofs.shared.clear_slots.Given as goal

abbrev pub invariant-loop-slot : goal.invariant-loop-slot
invariant-loop-slot l = l.slot-items ≡ filled l.slot-index absent ++ drop l.slot-index l.initial.slot-items
