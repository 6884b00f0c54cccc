-- The runs' refusal; and last the reservation.
use Rattle.memory.proofs.Refused.{passed_on}
use Rattle.snapshot.proofs.Resumed.{machine_refused, machine_restored}
use Rattle.snapshot.proofs.resume.restore.Goals as goal

pub returns-in_err-restore_runs-clause-value : goal.returns-in_err-restore_runs-clause-value
returns-in_err-restore_runs-clause-value c =
    rw (passed_on c.from_residual.ensures.1)
    (machine_refused _ _ _ c.args.kept _ _ _ _ _ _ _ _ _ _ _ _ _
    c.untrack_all.ensures c.with_registers.ensures c.update_pc.ensures c.commit_pc.ensures c.set_cycles.ensures c.set_max_cycles.ensures
    _ _ c.in_err-restore_runs.ensures.value)

pub returns-clause-value : goal.returns-clause-value
returns-clause-value c =
    machine_restored _ _ _ c.args.kept _ _ _ _ _ _ _ _ _ _ _ _ _
    c.untrack_all.ensures c.with_registers.ensures c.update_pc.ensures c.commit_pc.ensures c.set_cycles.ensures c.set_max_cycles.ensures
    _ _ c.in_ok-restore_runs.ensures.value c.set_lr-machine.ensures
