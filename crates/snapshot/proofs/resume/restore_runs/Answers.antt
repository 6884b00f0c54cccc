-- The records from this one on decide.
use Rattle.std.proofs.Common.{rules}
use Rattle.memory.proofs.Refused.{passed_on}
use Rattle.snapshot.proofs.RestoredRuns.{restored_all, restoring_stop, restoring_next}
use Rattle.snapshot.proofs.resume.restore_runs.Goals as goal

pub returns-in_err-restore_record-clause-value : goal.returns-in_err-restore_record-clause-value
returns-in_err-restore_record-clause-value c =
    rw (passed_on c.from_residual.ensures.1)
    (restoring_stop _ _ _ _ _ _ _ c.loop-entry.invariant.going _ _ c.in-Some.ensures.steps.0 _ c.requires _
    c.in_err-restore_record.ensures.value)

pub loop-entry-preserved : goal.loop-entry-preserved
loop-entry-preserved c =
    record {
      going = restoring_next _ _ _ _ _ _ _ c.loop-entry.invariant.going _ _ c.in-Some.ensures.steps.0 _ c.in_ok-restore_record.ensures.value;
      same = search rules;
    }

pub returns-clause-value : goal.returns-clause-value
returns-clause-value c = restored_all _ _ _ _ _ _ _ c.loop-entry.invariant.going c.requires c.in-None.ensures.steps.0.0
