-- The pages passed are met, and what is left decides.
use Rattle.std.proofs.Common.{rules}
use Rattle.std.proofs.lemmas.Result.{err_from_is_err_and}
use Rattle.memory.proofs.Refused.{refused}
use Rattle.snapshot.proofs.Counting.{meet_stop, meet_on, meet_end}
use Rattle.snapshot.proofs.make.meet_run.Goals as goal

pub returns-in_err-meet : goal.returns-in_err-meet
returns-in_err-meet c =
    let p = err_from_is_err_and c.from_residual.result c.from_residual.ensures.1 in
    rw (p.1, p.2) (meet_stop c.loop-page.invariant (search rules) _ c.in_err-meet.ensures (refused c.in_err-meet.field-0.0))

pub loop-page-preserved : goal.loop-page-preserved
loop-page-preserved c = meet_on c.loop-page.invariant (search rules) c.in_ok-meet.ensures

pub returns : goal.returns
returns c = search (rules, meet_end)
