-- The pages from `page` on, with the flags as they are, come to what all come to with those at entry.
use Rattle.std.proofs.Common.{ℕ, List}
use Rattle.memory.proofs.Flags.{LeftTo, mark}
use Rattle.memory.proofs.mark_pages.Given as goal

abbrev pub invariant-loop-page : goal.invariant-loop-page
invariant-loop-page l = (sl ar : List ℕ) → LeftTo mark sl ar l.initial.flags l.first l.last l.flags l.page
