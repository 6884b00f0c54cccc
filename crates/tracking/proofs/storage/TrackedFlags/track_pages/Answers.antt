-- Lengths, the distance, the two bounds, then the whole pages.
use Rattle.std.proofs.Common.{arith, rules}
use Rattle.tracking.specs.Tracking.{track_pages}
use Rattle.tracking.proofs.Passed.{passed, some_of, none_of}
use Rattle.tracking.proofs.Lengths.{fit_not, records-told}
use Rattle.tracking.proofs.TrackPages.{track-short, track_high, track_late, track-all}
use Rattle.tracking.proofs.storage.TrackedFlags.track_pages.Goals as goal

pub returns-then-not-fits-clause-value : goal.returns-then-not-fits-clause-value
unfolding track_pages
returns-then-not-fits-clause-value c = fit_not (λ n. n) _ _ _ c.fits.ensures (search rules)

pub returns-then-size-d-clause-value : goal.returns-then-size-d-clause-value
returns-then-size-d-clause-value c = track-short _ _ _ _ _ _ c.fits.ensures (search rules) _ c.distance-d.ensures c.if-size-d.true

pub returns-then-start-gt-LAST_PAGE-clause-value : goal.returns-then-start-gt-LAST_PAGE-clause-value
returns-then-start-gt-LAST_PAGE-clause-value c =
    track_high _ _ _ _ _ _ c.fits.ensures (search rules) _ c.distance-d.ensures c.if-size-d.false c.if-start-gt-LAST_PAGE.true

pub returns-in_err-from-clause-value : goal.returns-in_err-from-clause-value
returns-in_err-from-clause-value c =
    let n = none_of _ c.checked_add.result _ _ c.checked_add.ensures c.in_err-from.ensures.value in
    rw (passed c.from_residual.result c.from_residual.ensures.1, n.1)
    (track_late _ _ _ _ _ _ c.fits.ensures (search rules) _ c.distance-d.ensures c.if-size-d.false c.if-start-gt-LAST_PAGE.false (omega (arith, n.0)))

pub track_whole-requires-clause-long : goal.track_whole-requires-clause-long
track_whole-requires-clause-long c = search (rules, records-told)

pub returns-clause-value : goal.returns-clause-value
returns-clause-value c =
    let a = c.args in
    let f = some_of c.checked_add.result _ _ c.checked_add.ensures c.in_ok-from.ensures.value in
    track-all _ a.start a.size a.id a.offset _ c.fits.ensures (search rules) _ c.distance-d.ensures c.if-size-d.false c.if-start-gt-LAST_PAGE.false
    _ _ f.1 (omega (arith, f.0)) (c.track_whole.ensures.value a.memory)
