-- The first i bytes of the output are those from the address on. Measure: what is left of n.
use Rattle.std.proofs.Common.{◌-◌}
use Rattle.memory.proofs.Span.{Filling}
use Rattle.memory.proofs.storage.Lent.load_pages.Given as goal

abbrev pub invariant-loop-i : goal.invariant-loop-i
invariant-loop-i l = Filling l.self.slots.now l.self.area.now l.address l.n l.initial.out l.out l.i

abbrev pub decreases-loop-i : goal.decreases-loop-i
decreases-loop-i l = l.n - l.i
