-- Lengths first, then the pages.
use Rattle.std.proofs.Common.{rules}
use Rattle.memory.specs.Sparse.{check_permission}
use Rattle.memory.proofs.Lengths.{fit_not, fit-yes}
use Rattle.memory.proofs.Memory.check_permission.Goals as goal

pub returns-then-not-fits : goal.returns-then-not-fits
unfolding check_permission
returns-then-not-fits c = search (rules, fit_not (λ n. n))

pub returns : goal.returns
unfolding check_permission
returns c = let h = c.permits_pages.ensures c.args.lent.slots.now c.args.lent.area.now c.args.self in search (rules, fit-yes)
