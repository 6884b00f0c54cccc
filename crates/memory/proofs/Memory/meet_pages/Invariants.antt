-- The pages from this one on decide.
use Rattle.memory.proofs.Loads.{Meeting}
use Rattle.memory.proofs.Memory.meet_pages.Given as goal

abbrev pub invariant-loop-page : goal.invariant-loop-page
invariant-loop-page l = Meeting l.lent.slots.now l.self.used l.address l.n l.page
