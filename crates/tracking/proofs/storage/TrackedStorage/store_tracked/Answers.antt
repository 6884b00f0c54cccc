-- The store, then the tracking.
use Rattle.std.proofs.Common.{refl}
use Rattle.memory.proofs.Refused.{refused}
use Rattle.tracking.proofs.Passed.{passed}
use Rattle.tracking.proofs.ContextSteps.{bytes_stored, bytes-refused}
use Rattle.tracking.proofs.storage.TrackedStorage.store_tracked.Goals as goal

pub returns-in_err-store-clause-value : goal.returns-in_err-store-clause-value
returns-in_err-store-clause-value c =
    let a = c.args in
    rw (passed c.from_residual.result c.from_residual.ensures.1) (bytes-refused _ a.address a.id a.offset a.bytes.now _ _ c.in_err-store.ensures.value (refused _))

pub returns-clause-value : goal.returns-clause-value
returns-clause-value c =
    let a = c.args in
    bytes_stored _ a.address a.id a.offset a.bytes.now 0 _ c.in_ok-store.ensures.value _ refl c.track_pages.ensures.value
