-- The pages from this one on decide.
use Rattle.std.proofs.Common.{rules, refl, true, false}
use Rattle.memory.proofs.Refused.{refused, passed_on}
use Rattle.memory.proofs.Loads.{meeting_none, meeting_more, meeting-stop, meeting-done}
use Rattle.memory.proofs.Memory.meet_pages.Goals as goal

pub loop-page-init : goal.loop-page-init
loop-page-init c = search (rules, meeting_none)

pub returns-in_err-meet : goal.returns-in_err-meet
returns-in_err-meet c =
    rw (passed_on c.from_residual.ensures.1) (meeting-stop c.loop-page.invariant _ false c.in_err-meet.ensures (refused _) (search rules) _ refl refl refl)

pub loop-page-preserved : goal.loop-page-preserved
loop-page-preserved c = let k = c.in_ok-meet.ensures in meeting_more c.loop-page.invariant _ true k refl (search rules) refl

pub returns : goal.returns
returns c = search (rules, meeting-done)
