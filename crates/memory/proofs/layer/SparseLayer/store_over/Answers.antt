-- Lengths first, then the pages.
use Rattle.std.proofs.Common.{rules}
use Rattle.memory.proofs.Lengths.{fits_told}
use Rattle.memory.proofs.Store.{bytes-refused, bytes_stored}
use Rattle.memory.proofs.layer.SparseLayer.store_over.Goals as goal

pub returns-then-not-fits-clause-value : goal.returns-then-not-fits-clause-value
returns-then-not-fits-clause-value c = search (rules, bytes-refused)

pub store_pages-requires-clause-fitting : goal.store_pages-requires-clause-fitting
store_pages-requires-clause-fitting c = search (rules, fits_told)

pub returns-clause-value : goal.returns-clause-value
returns-clause-value c = search (rules, bytes_stored)
