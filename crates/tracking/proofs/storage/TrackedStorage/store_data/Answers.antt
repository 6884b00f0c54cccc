-- The full length, then untrack, store and track.
use Rattle.std.proofs.Common.{refl}
use Rattle.memory.proofs.Refused.{refused}
use Rattle.tracking.proofs.Passed.{passed}
use Rattle.tracking.proofs.ContextSteps.{length-stored, length-refused}
use Rattle.tracking.proofs.storage.TrackedStorage.store_data.Goals as goal

pub returns-in_err-store-clause-value : goal.returns-in_err-store-clause-value
returns-in_err-store-clause-value c =
    let a = c.args in
    rw (passed c.from_residual.result c.from_residual.ensures.1) (length-refused _ a.size_at a.full a.address a.id a.offset a.bytes.now _ c.to_le_bytes-number.ensures _ _ c.in_err-store.ensures.value (refused _))

pub returns-clause-value : goal.returns-clause-value
returns-clause-value c =
    let a = c.args in
    length-stored _ a.size_at a.full a.address a.id a.offset a.bytes.now _ c.to_le_bytes-number.ensures 0 _ c.in_ok-store.ensures.value _ refl c.replace.ensures.value
