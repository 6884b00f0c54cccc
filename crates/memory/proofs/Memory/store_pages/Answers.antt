-- The store of what is left comes to the store of all.
use Rattle.memory.proofs.Refused.{passed_on}
use Rattle.std.proofs.Common.{rules}
use Rattle.memory.proofs.Store.{stop-piece, on-piece, page_next, finish}
use Rattle.memory.proofs.Memory.store_pages.Goals as goal

pub returns-in_err-store_part-clause-value : goal.returns-in_err-store_part-clause-value
returns-in_err-store_part-clause-value c =
    rw (passed_on c.from_residual.ensures.1) (stop-piece c.loop-rest.invariant.going (search rules) _ (search rules) _ _ c.first.ensures _ c.in_err-store_part.ensures.value)

pub overflow_add-page : goal.overflow_add-page
overflow_add-page c = let k = c.in_ok-store_part.ensures in search (rules, page_next)

pub loop-rest-preserved : goal.loop-rest-preserved
loop-rest-preserved c = let k = c.in_ok-store_part.ensures in record {
  going = on-piece c.loop-rest.invariant.going (search rules) _ (search rules) _ _ c.first.ensures _ c.after-rest.ensures k.value k.same.slots_long k.same.flags_long k.same.area_long k.kept;
  same = search rules;
}

pub returns-clause-value : goal.returns-clause-value
returns-clause-value c = finish c.loop-rest.invariant.going (search rules)
