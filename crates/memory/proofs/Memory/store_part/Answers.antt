-- Where the fetch is done, the slot is written.
use Rattle.std.proofs.Common.{rules}
use Rattle.memory.proofs.Refused.{refused, passed_on}
use Rattle.memory.proofs.MadeReady.{part-refused, part-written}
use Rattle.memory.proofs.Memory.store_part.Goals as goal

pub returns-in_err-slot-clause-value : goal.returns-in_err-slot-clause-value
returns-in_err-slot-clause-value c =
    let k = c.in_err-slot.ensures in rw (passed_on c.from_residual.ensures.1) (search (rules, part-refused, refused))

pub returns-clause-value : goal.returns-clause-value
returns-clause-value c = let k = c.in_ok-slot.ensures in search (rules, part-written)
