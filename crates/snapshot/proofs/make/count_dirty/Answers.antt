-- The runs passed are met and counted, and what is left decides.
use Rattle.std.proofs.Common.{arith}
use Rattle.std.proofs.lemmas.Result.{err_from_is_err_and}
use Rattle.memory.proofs.Refused.{refused}
use Rattle.snapshot.proofs.Counting.{counting, count_within, count_fits, runs_fit, count_stop, count_on, count_end}
use Rattle.snapshot.proofs.make.count_dirty.Goals as goal

pub loop-run-init : goal.loop-run-init
loop-run-init c =
    rw (c.into_iter-run-iterator.ensures.into_iter_gives, c.new-run-items.ensures.pages, c.new-run-items.ensures.first) (counting _ _ _)

pub meet_run-requires : goal.meet_run-requires
meet_run-requires c = omega (arith, count_within c.loop-run.invariant _ _ c.in-Some.ensures.steps)

pub returns-in_err-meet_run : goal.returns-in_err-meet_run
returns-in_err-meet_run c =
    let p = err_from_is_err_and c.from_residual.result c.from_residual.ensures.1 in
    rw (p.1, p.2)
    (count_stop c.loop-run.invariant _ _ c.in-Some.ensures.steps _ c.in_err-meet_run.ensures (refused c.in_err-meet_run.field-0.0))

pub overflow_add-runs : goal.overflow_add-runs
overflow_add-runs c = omega (arith, runs_fit c.loop-run.invariant _ _ c.in-Some.ensures.steps)

pub overflow_add-pages : goal.overflow_add-pages
overflow_add-pages c = omega (arith, count_fits c.loop-run.invariant _ _ c.in-Some.ensures.steps)

pub loop-run-preserved : goal.loop-run-preserved
loop-run-preserved c = count_on c.loop-run.invariant _ _ c.in-Some.ensures.steps c.in_ok-meet_run.ensures

pub returns : goal.returns
returns c = count_end c.loop-run.invariant c.in-None.ensures.steps.0
