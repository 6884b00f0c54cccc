-- Lengths, the page's flag, then its record.
use Rattle.std.proofs.Common.{rules}
use Rattle.tracking.specs.Tracking.{not_recorded, page_record}
use Rattle.tracking.proofs.Lengths.{fit_not}
use Rattle.tracking.proofs.PageRecords.{record_past, record_there}
use Rattle.tracking.proofs.storage.TrackedLent.page_record.Goals as goal

pub returns-then-not-fits : goal.returns-then-not-fits
unfolding page_record
returns-then-not-fits c = fit_not not_recorded _ _ _ c.fits.ensures (search rules)

pub returns-then-page-self : goal.returns-then-page-self
returns-then-page-self c = record_past _ _ _ c.fits.ensures (search rules) (search rules)

pub returns : goal.returns
returns c = record_there _ _ _ c.fits.ensures (search rules) _ (search rules) c.entry_at.ensures
