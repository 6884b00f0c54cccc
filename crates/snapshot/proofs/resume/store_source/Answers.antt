-- The run's refusal.
use Rattle.memory.proofs.Refused.{passed_on}
use Rattle.snapshot.proofs.Restored.{source_refused}
use Rattle.snapshot.proofs.resume.store_source.Goals as goal

pub returns-in_err-store_run-clause-value : goal.returns-in_err-store_run-clause-value
returns-in_err-store_run-clause-value c =
    rw (passed_on c.from_residual.ensures.1) (source_refused _ _ _ _ _ _ _ _ c.in_err-store_run.ensures.value)
