-- Two stores in turn.
use Rattle.memory.proofs.Refused.{passed_on}
use Rattle.memory.proofs.Fill.{rest-err, rest-ok}
use Rattle.memory.proofs.Memory.fill_source.Goals as goal

pub returns-in_err-store_pages-clause-value : goal.returns-in_err-store_pages-clause-value
returns-in_err-store_pages-clause-value c =
    rw (passed_on c.from_residual.ensures.1) (rest-err _ _ _ _ _ _ _ _ c.place_of-place.ensures _ c.in_err-store_pages.ensures.value)

pub returns-clause-value : goal.returns-clause-value
returns-clause-value c = let k = c.in_ok-store_pages.ensures in rest-ok _ _ _ _ _ _ _ _ c.place_of-place.ensures k.value _ _ c.place_of-end.ensures _ c.store_pages-2.ensures.value
