-- A page past the machine, an offset too far, else the flag and the record.
use Rattle.std.proofs.Common.{rules}
use Rattle.tracking.proofs.TrackPages.{track-past, track_far, track-there}
use Rattle.tracking.proofs.storage.TrackedFlags.track_page.Goals as goal

pub returns-then-p-self-clause-value : goal.returns-then-p-self-clause-value
returns-then-p-self-clause-value c = λ m. track-past _ _ _ _ m _ _ _ (search rules)

pub returns-then-offset-ge-LAST_PAGE-clause-value : goal.returns-then-offset-ge-LAST_PAGE-clause-value
returns-then-offset-ge-LAST_PAGE-clause-value c = λ m. track_far _ _ _ _ m _ _ _ (search rules) (search rules)

pub returns-clause-value : goal.returns-clause-value
returns-clause-value c = λ m. track-there _ _ _ _ m _ _ _ (search rules) _ (search rules) c.write_record.ensures
