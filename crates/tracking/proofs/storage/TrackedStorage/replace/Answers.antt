-- The untracking, then store and tracking.
use Rattle.std.proofs.Common.{refl}
use Rattle.memory.proofs.Refused.{refused}
use Rattle.tracking.proofs.Passed.{passed}
use Rattle.tracking.proofs.ContextSteps.{pages_untracked, untrack-refused}
use Rattle.tracking.proofs.storage.TrackedStorage.replace.Goals as goal

pub returns-in_err-untrack_apart-clause-value : goal.returns-in_err-untrack_apart-clause-value
returns-in_err-untrack_apart-clause-value c =
    let a = c.args in
    rw (passed c.from_residual.result c.from_residual.ensures.1) (untrack-refused _ a.address a.id a.offset a.bytes.now _ _ c.in_err-untrack_apart.ensures (refused _))

pub returns-clause-value : goal.returns-clause-value
returns-clause-value c =
    let a = c.args in
    pages_untracked _ a.address a.id a.offset a.bytes.now 0 _ c.in_ok-untrack_apart.ensures _ refl c.store_tracked.ensures.value
