-- Lengths, then the actions.
use Rattle.std.proofs.Common.{rules}
use Rattle.tracking.specs.Tracking.{mark_program}
use Rattle.tracking.proofs.Lengths.{fit_not, fit-yes}
use Rattle.tracking.proofs.storage.TrackedFlags.mark_program.Goals as goal

pub returns-then-not-fits-clause-value : goal.returns-then-not-fits-clause-value
unfolding mark_program
returns-then-not-fits-clause-value c = fit_not (λ n. n) _ _ _ c.fits.ensures (search rules)

pub returns-clause-value : goal.returns-clause-value
unfolding mark_program
returns-clause-value c = fit-yes (λ n. n) _ _ _ c.fits.ensures _ (search rules) c.mark_actions.ensures.value
