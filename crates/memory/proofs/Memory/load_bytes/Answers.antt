-- Right lengths, then the reach, then the bytes; a refusal lays none.
use Rattle.std.proofs.Common.{rules, refl, true, false}
use Rattle.memory.proofs.Refused.{refused, passed_on}
use Rattle.memory.specs.Sparse.{load_bytes}
use Rattle.memory.proofs.Lengths.{fits_told}
use Rattle.memory.proofs.Loads.{laid_unfit, bytes_none, bytes-stop, bytes-done, reach-told}
use Rattle.memory.proofs.Memory.load_bytes.Goals as goal

pub returns-then-not-fits : goal.returns-then-not-fits
unfolding load_bytes
returns-then-not-fits c = search (rules, laid_unfit)

pub returns-then-size-eq0 : goal.returns-then-size-eq0
returns-then-size-eq0 c = search (rules, bytes_none)

pub reachable-requires-clause-fitting : goal.reachable-requires-clause-fitting
reachable-requires-clause-fitting c = search (rules, fits_told)

pub returns-in_err-reachable : goal.returns-in_err-reachable
returns-in_err-reachable c =
    rw (passed_on c.from_residual.ensures.1) (bytes-stop _ _ _ _ _ _ c.fits.ensures (search rules) (search rules) _ false c.in_err-reachable.ensures (refused _) refl)

pub load_pages-requires : goal.load_pages-requires
load_pages-requires c = let k = c.in_ok-reachable.ensures in let told = reach-told _ _ _ _ 0 true k refl refl (fits_told _ _ _ _ _ c.fits.ensures (search rules)) in record { n_in_bounds = told.0; n_bound = told.1.0; page_size_len = told.1.1 }

pub returns : goal.returns
returns c = let k = c.in_ok-reachable.ensures in bytes-done _ _ _ _ _ _ c.fits.ensures (search rules) (search rules) 0 true k refl _ refl c.load_pages.ensures
