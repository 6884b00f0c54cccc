-- The store of what is left comes to the store of all. Measure: what is left.
use Rattle.std.proofs.Common.{length}
use Rattle.memory.specs.Lent.{seen, SameSlices, bytes_of}
use Rattle.memory.proofs.Store.{Going}
use Rattle.memory.proofs.Memory.store_pages.Given as goal

abbrev pub invariant-loop-rest : goal.invariant-loop-rest
invariant-loop-rest l = record {
  going : Going (seen l.initial.storage l.initial.self) l.initial.page l.initial.at (bytes_of l.initial.rest) (seen l.storage l.self) l.page l.at (bytes_of l.rest);
  same : SameSlices l.initial.storage l.storage;
}

abbrev pub decreases-loop-rest : goal.decreases-loop-rest
decreases-loop-rest l = length (bytes_of l.rest)
