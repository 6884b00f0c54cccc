-- The memory's lengths, then the records'.
use Rattle.std.proofs.Common.{rules}
use Rattle.tracking.proofs.Lengths.{all_fit, none_fit}
use Rattle.tracking.proofs.lengths_fit.Goals as goal

pub returns-then-storage_fits : goal.returns-then-storage_fits
returns-then-storage_fits c = all_fit _ _ _ _ _ _ _ c.storage_fits.ensures (search rules) c.records_fit.ensures

pub returns-else-storage_fits : goal.returns-else-storage_fits
returns-else-storage_fits c = none_fit _ _ _ _ _ _ c.storage_fits.ensures (search rules)
