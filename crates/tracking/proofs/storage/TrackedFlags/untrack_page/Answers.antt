-- A page past the machine, else the flag and the record.
use Rattle.std.proofs.Common.{rules}
use Rattle.tracking.proofs.UntrackPages.{drop_past, drop-there}
use Rattle.tracking.proofs.storage.TrackedFlags.untrack_page.Goals as goal

pub returns-then-p-self-clause-value : goal.returns-then-p-self-clause-value
returns-then-p-self-clause-value c = λ m. drop_past _ _ _ _ m _ (search rules)

pub returns-clause-value : goal.returns-clause-value
returns-clause-value c = λ m. drop-there _ _ _ _ m _ _ (search rules) c.write_record.ensures
