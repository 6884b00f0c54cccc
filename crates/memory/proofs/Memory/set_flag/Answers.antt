-- Lengths first, then the page's flag.
use Rattle.std.proofs.Common.{rules}
use Rattle.memory.specs.Sparse.{set_flag}
use Rattle.memory.proofs.Flags.{or_there, or_past}
use Rattle.memory.proofs.Lengths.{fit_not, fit-yes}
use Rattle.memory.proofs.Memory.set_flag.Goals as goal

pub returns-then-not-fits-clause-value : goal.returns-then-not-fits-clause-value
unfolding set_flag
returns-then-not-fits-clause-value c = search (rules, fit_not (λ n. n))

pub returns-then-p-lent-clause-value : goal.returns-then-p-lent-clause-value
unfolding set_flag
returns-then-p-lent-clause-value c = search (rules, fit-yes, or_past)

pub returns-clause-value : goal.returns-clause-value
unfolding set_flag
returns-clause-value c = search (rules, fit-yes, or_there)
