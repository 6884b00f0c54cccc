-- Lengths first, then the pages.
use Rattle.std.proofs.Common.{rules}
use Rattle.memory.specs.Sparse.{set_dirty}
use Rattle.memory.proofs.Lengths.{fit_not, fit-yes}
use Rattle.memory.proofs.Memory.set_dirty.Goals as goal

pub returns-then-not-fits-clause-value : goal.returns-then-not-fits-clause-value
unfolding set_dirty
returns-then-not-fits-clause-value c = search (rules, fit_not (λ n. n))

pub returns-clause-value : goal.returns-clause-value
unfolding set_dirty
returns-clause-value c = let h = c.mark_pages.ensures c.args.lent.now.slots.now c.args.lent.now.area.now c.args.self in search (rules, fit-yes)
