-- The pages from this one on decide.
use Rattle.std.proofs.Common.{rules, refl, ◌+◌}
use Rattle.memory.proofs.Refused.{refused}
use Rattle.tracking.proofs.Passed.{passed}
use Rattle.tracking.proofs.UntrackPages.{dropping_stop, dropping_next, dropped-all}
use Rattle.tracking.proofs.storage.TrackedFlags.untrack_whole.Goals as goal

pub returns-in_err-untrack_page-clause-value : goal.returns-in_err-untrack_page-clause-value
returns-in_err-untrack_page-clause-value c = λ m.
    let a = c.args in
    rw (passed c.from_residual.result c.from_residual.ensures.1) (dropping_stop _ a.first a.last _ c.loop-page.page (c.loop-page.invariant.going m) (search rules) _ _ (c.in_err-untrack_page.ensures.value m) (refused _))

pub loop-page-preserved : goal.loop-page-preserved
loop-page-preserved c =
    let a = c.args in
    record {
      going = λ m. dropping_next _ a.first a.last _ c.loop-page.page (c.loop-page.invariant.going m) (search rules) 0 _ (c.in_ok-untrack_page.ensures.value m) refl;
      same = search rules;
    }

pub returns-clause-value : goal.returns-clause-value
returns-clause-value c = λ m.
    let a = c.args in
    dropped-all _ a.first a.last _ c.loop-page.page (c.loop-page.invariant.going m) (search rules)

pub returns-in_ok-untrack_page-clause-value : goal.returns-in_ok-untrack_page-clause-value
returns-in_ok-untrack_page-clause-value c = λ m.
    let a = c.args in
    let w = dropping_next _ a.first a.last _ c.loop-page.page (c.loop-page.invariant.going m) (search rules) 0 _ (c.in_ok-untrack_page.ensures.value m) refl in
    dropped-all _ a.first a.last _ (c.loop-page.page + 1) w (search rules)
