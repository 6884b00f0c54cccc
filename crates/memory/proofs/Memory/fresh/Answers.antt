-- Slot numbers and flags are filled where the lengths are right.
use Rattle.std.proofs.Common.{rules}
use Rattle.memory.proofs.Fresh.{fresh_unfit, fresh-made}
use Rattle.memory.proofs.Memory.fresh.Goals as goal

pub returns-then-not-fits-clause-value : goal.returns-then-not-fits-clause-value
returns-then-not-fits-clause-value c = search (rules, fresh_unfit)

pub returns-clause-value : goal.returns-clause-value
returns-clause-value c = search (rules, fresh-made)
