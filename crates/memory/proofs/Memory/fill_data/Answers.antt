-- A store, and then two in turn.
use Rattle.memory.proofs.Refused.{passed_on}
use Rattle.memory.proofs.Fill.{data-err, data-ok}
use Rattle.memory.proofs.Memory.fill_data.Goals as goal

pub returns-in_err-store_pages-clause-value : goal.returns-in_err-store_pages-clause-value
returns-in_err-store_pages-clause-value c =
    rw (passed_on c.from_residual.ensures.1) (data-err _ _ _ _ _ _ _ _ _ c.min-front.ensures c.place_of-place.ensures _ c.in_err-store_pages.ensures.value)

pub returns-clause-value : goal.returns-clause-value
returns-clause-value c = let k = c.in_ok-store_pages.ensures in data-ok _ _ _ _ _ _ _ _ _ c.min-front.ensures c.place_of-place.ensures k.value _ c.min-n.ensures _ c.fill_source.ensures.value
