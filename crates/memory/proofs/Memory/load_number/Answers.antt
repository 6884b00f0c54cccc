-- On one page that is in a slot, or on any pages.
use Rattle.std.proofs.Common.{rules}
use Rattle.memory.specs.Storage.{no_value}
use Rattle.memory.specs.Sparse.{load_wide}
use Rattle.memory.proofs.Lengths.{fit_not, fit-yes, fits_told}
use Rattle.memory.proofs.Memory.load_number.Goals as goal

pub returns-then-not-fits : goal.returns-then-not-fits
unfolding load_wide
returns-then-not-fits c = search (rules, fit_not no_value)

pub load_over-requires-clause-fitting : goal.load_over-requires-clause-fitting
load_over-requires-clause-fitting c = search (rules, fits_told)

pub returns : goal.returns
unfolding load_wide
returns c = search (rules, fit-yes)
