-- The pages from `page` on come to what all of them come to.
use Rattle.std.proofs.Common.{ℕ, List}
use Rattle.memory.specs.Sparse.{permit}
use Rattle.memory.proofs.Flags.{LeftTo}
use Rattle.memory.proofs.permits_pages.Given as goal

abbrev pub invariant-loop-page : goal.invariant-loop-page
invariant-loop-page l = (sl ar : List ℕ) → LeftTo (permit l.flag) sl ar l.flags l.first l.last l.flags l.page
