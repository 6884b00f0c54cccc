use Rattle.handover.proofs.keeps_each_promise.Goals as goal
use Rattle.handover.proofs.Promised.{promised}

pub returns : goal.returns
returns c = promised
