-- The mark decides.
use Rattle.std.proofs.Common.{rules}
use Rattle.tracking.proofs.PageRecords.{read_untracked, read_tracked}
use Rattle.tracking.proofs.records.TrackingFromArrayU643.from.Goals as goal

pub returns-then-mark-lt-TRACKED : goal.returns-then-mark-lt-TRACKED
returns-then-mark-lt-TRACKED c = read_untracked _ _ _ (search rules)

pub returns : goal.returns
returns c = read_tracked _ _ _ (search rules)
