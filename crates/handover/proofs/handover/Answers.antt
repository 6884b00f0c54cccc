use Rattle.handover.proofs.handover.Goals as goal
use Rattle.handover.proofs.Theorem.{theorem}

pub returns : goal.returns
returns c = theorem
