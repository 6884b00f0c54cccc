-- The store's refusal; else the flags.
use Rattle.memory.proofs.Refused.{passed_on}
use Rattle.snapshot.proofs.Restored.{run_stored, run_refused}
use Rattle.snapshot.proofs.resume.store_run.Goals as goal

pub returns-in_err-store_over_apart-clause-value : goal.returns-in_err-store_over_apart-clause-value
returns-in_err-store_over_apart-clause-value c =
    rw (passed_on c.from_residual.ensures.1) (run_refused _ _ _ _ _ _ _ c.in_err-store_over_apart.ensures)

pub returns-clause-value : goal.returns-clause-value
returns-clause-value c = run_stored _ _ _ _ _ _ c.in_ok-store_over_apart.ensures _ _ c.set_flags_apart.ensures
