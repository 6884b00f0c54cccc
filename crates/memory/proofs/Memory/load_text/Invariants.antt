-- The bytes before i were read, and what is left to read comes to the whole. Measure: the room that is left.
use Rattle.std.proofs.Common.{◌-◌, length}
use Rattle.memory.proofs.Text.{Reading}
use Rattle.memory.proofs.Memory.load_text.Given as goal

abbrev pub invariant-loop-lent : goal.invariant-loop-lent
invariant-loop-lent l = Reading l.lent.slots.now l.lent.area.now l.self.used l.address l.initial.out l.out l.i l.at

abbrev pub decreases-loop-lent : goal.decreases-loop-lent
decreases-loop-lent l = length l.initial.out - l.i
