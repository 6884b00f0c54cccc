-- A page that refuses.
use Rattle.std.proofs.Common.{rules}
use Rattle.memory.proofs.Refused.{passed_on}
use Rattle.snapshot.proofs.Restored.{setting_stop}
use Rattle.snapshot.proofs.resume.set_flags.Goals as goal

pub returns-in_err-set_flag-clause-value : goal.returns-in_err-set_flag-clause-value
returns-in_err-set_flag-clause-value c =
    rw (passed_on c.from_residual.ensures.1)
    (setting_stop _ _ _ _ _ _ c.loop-page.invariant.going (search rules) _ _ c.in_err-set_flag.ensures.value)
