-- Lengths first, then the page's flag.
use Rattle.std.proofs.Common.{rules}
use Rattle.memory.proofs.Flags.{clear_unfit, clear_fit, and_there, and_past}
use Rattle.memory.proofs.Memory.clear_flag.Goals as goal

pub returns-then-not-fits-clause-value : goal.returns-then-not-fits-clause-value
returns-then-not-fits-clause-value c = search (rules, clear_unfit)

pub returns-then-p-lent-clause-value : goal.returns-then-p-lent-clause-value
returns-then-p-lent-clause-value c = search (rules, clear_fit, and_past)

pub returns-clause-value : goal.returns-clause-value
returns-clause-value c = search (rules, clear_fit, and_there)
