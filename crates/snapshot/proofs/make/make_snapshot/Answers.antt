-- One law for each way in which the call ends.
use Rattle.std.proofs.Common.{arith}
use Rattle.std.proofs.lemmas.Result.{err_from_is_err_and}
use Rattle.memory.proofs.Refused.{refused}
use Rattle.snapshot.proofs.Answered.{few-sources, few-runs, snapshot_unfit, snapshot_unmet, snapshot_short, room_told, snapshot_made}
use Rattle.snapshot.proofs.make.make_snapshot.Goals as goal

pub returns-then-not-fits-clause-value : goal.returns-then-not-fits-clause-value
returns-then-not-fits-clause-value c = snapshot_unfit _ _ _ _ _ _ c.args.machine c.if-not-fits.ensures

pub returns-in_err-dirty-clause-value : goal.returns-in_err-dirty-clause-value
returns-in_err-dirty-clause-value c =
    let p = err_from_is_err_and c.from_residual.result c.from_residual.ensures.1 in
    rw (p.1, p.2)
    (snapshot_unmet _ _ _ _ _ _ c.args.machine c.if-not-fits.ensures _ c.in_err-dirty.ensures (refused c.in_err-dirty.field-0.0))

pub overflow_add-found : goal.overflow_add-found
overflow_add-found c = omega (arith, few-sources _ _ _ c.count_sources-sources.ensures)

pub overflow_add-found-2 : goal.overflow_add-found-2
overflow_add-found-2 c = omega (arith, few-runs _ _ _ c.count_sources-sources.ensures _ _ _ _ _ c.in_ok-dirty.ensures)

pub returns-then-not-hold-clause-value : goal.returns-then-not-hold-clause-value
returns-then-not-hold-clause-value c =
    snapshot_short _ _ _ _ _ _ c.args.machine c.if-not-fits.ensures _ _ c.in_ok-dirty.ensures _ c.count_sources-sources.ensures
    c.if-not-hold.ensures

pub write_files-requires : goal.write_files-requires
write_files-requires c =
    room_told c.args.tracked c.args.outputs.now c.args.machine.memory c.if-not-fits.ensures _ _ c.in_ok-dirty.ensures _
    c.count_sources-sources.ensures c.if-not-hold.ensures

pub returns-clause-value : goal.returns-clause-value
returns-clause-value c =
    let made =
    snapshot_made _ _ _ _ _ _ c.args.machine c.if-not-fits.ensures _ _ c.in_ok-dirty.ensures _ c.count_sources-sources.ensures
    c.if-not-hold.ensures _ _ c.write_files.ensures.file c.write_files.ensures.pages in
    λ i. made i
