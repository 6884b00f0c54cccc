-- The pages from this one on decide.
use Rattle.std.proofs.Common.{rules, refl}
use Rattle.memory.proofs.Refused.{refused}
use Rattle.tracking.proofs.Passed.{passed}
use Rattle.memory.specs.Storage.{no_memory}
use Rattle.tracking.proofs.TrackPages.{tracking-stop, tracking-next, tracked-all, tracked-offset, place-next}
use Rattle.tracking.proofs.storage.TrackedFlags.track_whole.Goals as goal

pub returns-in_err-track_page-clause-value : goal.returns-in_err-track_page-clause-value
returns-in_err-track_page-clause-value c = λ m.
    let a = c.args in
    rw (passed c.from_residual.result c.from_residual.ensures.1) (tracking-stop _ a.first a.count a.id a.offset _ c.loop-page.page c.loop-page.at (c.loop-page.invariant.going m) (search rules) c.loop-page.invariant.place _ _ (c.in_err-track_page.ensures.value m) (refused _))

pub overflow_add-at : goal.overflow_add-at
overflow_add-at c =
    let q = tracked-offset _ _ c.loop-page.page c.args.id c.loop-page.at (c.in_ok-track_page.ensures.value no_memory) in
    search rules

pub loop-page-preserved : goal.loop-page-preserved
loop-page-preserved c =
    let a = c.args in
    record {
      going = λ m. tracking-next _ a.first a.count a.id a.offset _ c.loop-page.page c.loop-page.at (c.loop-page.invariant.going m) (search rules) c.loop-page.invariant.place 0 _ (c.in_ok-track_page.ensures.value m) refl;
      place = place-next a.first c.loop-page.page c.loop-page.at a.offset (search rules) c.loop-page.invariant.place;
      same = search rules;
    }

pub returns-clause-value : goal.returns-clause-value
returns-clause-value c = λ m.
    let a = c.args in
    tracked-all _ a.first a.count a.id a.offset _ c.loop-page.page c.loop-page.at (c.loop-page.invariant.going m) (search rules)
