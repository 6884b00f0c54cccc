-- The end of the bytes, their pages and the room, in this order.
use Rattle.std.proofs.Common.{rules, refl, true, false}
use Rattle.memory.proofs.Refused.{refused, passed_on}
use Rattle.memory.proofs.Loads.{reach-past, reach-stop, reach-short, reach-fine}
use Rattle.memory.proofs.Memory.reachable.Goals as goal

pub returns-then-n-saturating_sub : goal.returns-then-n-saturating_sub
returns-then-n-saturating_sub c = search (rules, reach-past)

pub returns-in_err-meet_pages : goal.returns-in_err-meet_pages
returns-in_err-meet_pages c =
    rw (passed_on c.from_residual.ensures.1) (reach-stop _ _ _ _ (search rules) (search rules) _ false _ c.in_err-meet_pages.ensures (refused _) refl)

pub returns-then-room-n : goal.returns-then-room-n
returns-then-room-n c = let k = c.in_ok-meet_pages.ensures in reach-short _ _ _ _ (search rules) (search rules) 0 true _ k refl refl (search rules)

pub returns : goal.returns
returns c = let k = c.in_ok-meet_pages.ensures in reach-fine _ _ _ _ (search rules) (search rules) 0 true _ k refl refl (search rules)
