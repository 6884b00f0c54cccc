-- Lengths, no bytes, the page indices, then the pages.
use Rattle.std.proofs.Common.{rules, refl}
use Rattle.memory.proofs.Refused.{refused}
use Rattle.tracking.proofs.Passed.{passed}
use Rattle.tracking.specs.Tracking.{untrack_pages}
use Rattle.tracking.proofs.Lengths.{fit_not, records-told}
use Rattle.tracking.proofs.UntrackPages.{untrack_none, untrack-all, untrack-refused}
use Rattle.tracking.proofs.storage.TrackedFlags.untrack_pages.Goals as goal

pub returns-then-not-fits-clause-value : goal.returns-then-not-fits-clause-value
unfolding untrack_pages
returns-then-not-fits-clause-value c = fit_not (λ n. n) _ _ _ c.fits.ensures (search rules)

pub returns-then-size-eq0-clause-value : goal.returns-then-size-eq0-clause-value
returns-then-size-eq0-clause-value c = untrack_none _ _ _ _ c.fits.ensures (search rules) c.if-size-eq0.true

pub returns-in_err-indices-clause-value : goal.returns-in_err-indices-clause-value
returns-in_err-indices-clause-value c =
    rw (passed c.from_residual.result c.from_residual.ensures.1) (untrack-refused _ _ _ _ c.fits.ensures (search rules) c.if-size-eq0.false _ c.in_err-indices.ensures (refused _))

pub untrack_whole-requires : goal.untrack_whole-requires
untrack_whole-requires c = search (rules, records-told)

pub returns-clause-value : goal.returns-clause-value
returns-clause-value c =
    untrack-all _ _ _ _ c.fits.ensures (search rules) c.if-size-eq0.false _ c.in_ok-indices.ensures _ refl (c.untrack_whole.ensures.value c.args.memory)
