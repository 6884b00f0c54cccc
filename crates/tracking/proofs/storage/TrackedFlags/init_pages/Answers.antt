-- The four bounds of an action, then the tracking.
use Rattle.std.proofs.Common.{arith}
use Rattle.tracking.proofs.Passed.{passed, some_of, none_of}
use Rattle.tracking.proofs.MarkProgram.{address-past, source-past, lead_past, offset-past, action_tracked}
use Rattle.tracking.proofs.storage.TrackedFlags.init_pages.Goals as goal

pub returns-in_err-start-clause-value : goal.returns-in_err-start-clause-value
returns-in_err-start-clause-value c =
    let n = none_of _ c.checked_add.result _ _ c.checked_add.ensures c.in_err-start.ensures.value in
    rw (passed c.from_residual.result c.from_residual.ensures.1, n.1) (address-past _ _ _ c.args.action (omega (arith, n.0)))

pub returns-in_err-source-clause-value : goal.returns-in_err-source-clause-value
returns-in_err-source-clause-value c =
    let a = some_of c.checked_add.result _ _ c.checked_add.ensures c.in_ok-start.ensures.value in
    let n = none_of _ c.checked_sub.result _ _ c.checked_sub.ensures c.in_err-source.ensures.value in
    rw (passed c.from_residual-in_err-source.result c.from_residual-in_err-source.ensures.1, n.1)
    (source-past _ _ _ c.args.action (omega (arith, a.0)) (omega (arith, n.0)))

pub returns-in_err-room-clause-value : goal.returns-in_err-room-clause-value
returns-in_err-room-clause-value c =
    let a = some_of c.checked_add.result _ _ c.checked_add.ensures c.in_ok-start.ensures.value in
    let b = some_of c.checked_sub.result _ _ c.checked_sub.ensures c.in_ok-source.ensures.value in
    let n = none_of _ c.checked_sub-2.result _ _ c.checked_sub-2.ensures c.in_err-room.ensures.value in
    rw (passed c.from_residual-in_err-room.result c.from_residual-in_err-room.ensures.1, n.1)
    (lead_past _ _ _ c.args.action (omega (arith, a.0)) (omega (arith, b.0)) (omega (arith, n.0)))

pub returns-in_err-from-clause-value : goal.returns-in_err-from-clause-value
returns-in_err-from-clause-value c =
    let a = some_of c.checked_add.result _ _ c.checked_add.ensures c.in_ok-start.ensures.value in
    let b = some_of c.checked_sub.result _ _ c.checked_sub.ensures c.in_ok-source.ensures.value in
    let d = some_of c.checked_sub-2.result _ _ c.checked_sub-2.ensures c.in_ok-room.ensures.value in
    let n = none_of _ c.checked_add-2.result _ _ c.checked_add-2.ensures c.in_err-from.ensures.value in
    rw (passed c.from_residual-in_err-from.result c.from_residual-in_err-from.ensures.1, n.1)
    (offset-past _ _ _ c.args.action (omega (arith, a.0)) (omega (arith, b.0)) (omega (arith, d.0)) (omega (arith, n.0)))

pub returns-clause-value : goal.returns-clause-value
returns-clause-value c =
    let a = c.args in
    let s = some_of c.checked_add.result _ _ c.checked_add.ensures c.in_ok-start.ensures.value in
    let b = some_of c.checked_sub.result _ _ c.checked_sub.ensures c.in_ok-source.ensures.value in
    let d = some_of c.checked_sub-2.result _ _ c.checked_sub-2.ensures c.in_ok-room.ensures.value in
    let f = some_of c.checked_add-2.result _ _ c.checked_add-2.ensures c.in_ok-from.ensures.value in
    action_tracked _ a.id a.offset a.action (omega (arith, s.0)) (omega (arith, b.0)) (omega (arith, d.0))
    _ _ _ _ (omega (arith, f.0)) (omega (arith, b.1, d.1, c.min.ensures)) s.1 f.1 c.track_pages.ensures.value
