-- Lengths first, then the page's flag.
use Rattle.std.proofs.Common.{rules}
use Rattle.memory.specs.Storage.{no_value}
use Rattle.memory.specs.Sparse.{fetch_flag}
use Rattle.memory.proofs.Flags.{read_there, read_past}
use Rattle.memory.proofs.Lengths.{fit_not, fit-yes}
use Rattle.memory.proofs.Memory.fetch_flag.Goals as goal

pub returns-then-not-fits : goal.returns-then-not-fits
unfolding fetch_flag
returns-then-not-fits c = search (rules, fit_not no_value)

pub returns-then-p-lent : goal.returns-then-p-lent
unfolding fetch_flag
returns-then-p-lent c = search (rules, fit-yes, read_there)

pub returns-else-p-lent : goal.returns-else-p-lent
unfolding fetch_flag
returns-else-p-lent c = search (rules, fit-yes, read_past)
