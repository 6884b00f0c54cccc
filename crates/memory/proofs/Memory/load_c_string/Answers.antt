-- Right lengths, then the loop.
use Rattle.std.proofs.Common.{rules}
use Rattle.memory.specs.Sparse.{load_c_string}
use Rattle.memory.proofs.Lengths.{fits_told}
use Rattle.memory.proofs.Loads.{laid_unfit, laid-fit}
use Rattle.memory.proofs.Memory.load_c_string.Goals as goal

pub returns-then-not-fits : goal.returns-then-not-fits
unfolding load_c_string
returns-then-not-fits c = search (rules, laid_unfit)

pub load_text-requires : goal.load_text-requires
load_text-requires c = search (rules, fits_told)

pub returns : goal.returns
unfolding load_c_string
returns c = search (rules, laid-fit)
