-- Page indices first, then the pages.
use Rattle.std.proofs.Common.{refl, true, false}
use Rattle.memory.proofs.Refused.{refused, passed_on}
use Rattle.memory.proofs.WriteOrExecute.{permitted-pages, permitted_not}
use Rattle.memory.proofs.Memory.permits_bytes.Goals as goal

pub returns-in_err-indices : goal.returns-in_err-indices
returns-in_err-indices c = λ sl ar.
    rw (passed_on c.from_residual.ensures.1) (permitted_not _ _ _ _ _ _ _ false c.in_err-indices.ensures (refused _) refl)

pub returns : goal.returns
returns c = λ sl ar. let k = c.in_ok-indices.ensures in permitted-pages _ _ _ _ _ _ _ true k refl _ refl (c.permits_pages.ensures sl ar c.args.self)
