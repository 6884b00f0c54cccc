-- The pages from this one on, with the flags as they are, come to what all come to with those at entry.
use Rattle.std.proofs.Common.{ℕ, List}
use Rattle.memory.proofs.Flags.{InitsTo}
use Rattle.memory.proofs.layer.init_flags.Given as goal

abbrev pub invariant-loop-page : goal.invariant-loop-page
invariant-loop-page l = (sl ar : List ℕ) → InitsTo sl ar l.initial.flags l.flag l.first l.count l.flags l.page
