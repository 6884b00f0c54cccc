-- It was the whole call, or nothing, and then the call goes on.
use Rattle.std.proofs.Common.{rules}
use Rattle.memory.proofs.ShortPath.{did_sparse, did_on}
use Rattle.memory.proofs.layer.SparseLayer.store.Goals as goal

pub returns-then-store_here-clause-value : goal.returns-then-store_here-clause-value
returns-then-store_here-clause-value c = let d = did_sparse _ _ _ _ _ _ c.store_here.ensures.value in search (rules, d.yes)

pub returns-clause-value : goal.returns-clause-value
returns-clause-value c = did_on _ _ _ _ _ (did_sparse _ _ _ _ _ _ c.store_here.ensures.value) c.if-store_here.false c.store_apart-apart.ensures
