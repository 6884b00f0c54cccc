-- Lengths are looked at first.
use Rattle.std.proofs.Common.{rules}
use Rattle.memory.specs.Sparse.{fill_page_data}
use Rattle.memory.proofs.Lengths.{fit_not, fit-yes, fits_told}
use Rattle.memory.proofs.Memory.fill_page_data.Goals as goal

pub returns-then-not-fits-clause-value : goal.returns-then-not-fits-clause-value
unfolding fill_page_data
returns-then-not-fits-clause-value c = search (rules, fit_not (λ n. n))

pub fill_data-requires : goal.fill_data-requires
fill_data-requires c = search (rules, fits_told)

pub returns-clause-value : goal.returns-clause-value
unfolding fill_page_data
returns-clause-value c = search (rules, fit-yes)
