use Rattle.handover.proofs.speaks_of_something.Goals as goal
use Rattle.handover.proofs.Meant.{meant}

pub returns : goal.returns
returns c = meant
