-- Of no bytes, of a sum that wraps or passes the bound, there are no pages.
use Rattle.std.proofs.Common.{arith}
use Rattle.memory.proofs.PageIndices.{indices_none, indices-past, indices-are}
use Rattle.memory.proofs.pages_within.Goals as goal

pub returns-then-size-eq0 : goal.returns-then-size-eq0
returns-then-size-eq0 c = indices_none _ _ _ c.if-size-eq0.true

pub returns-in_default : goal.returns-in_default
returns-in_default c = indices-past _ _ _ (omega arith) (omega (arith, c.in_default.ensures))

pub returns-then-end-bound : goal.returns-then-end-bound
returns-then-end-bound c = indices-past _ _ _ (omega arith) (omega (arith, c.in-Some.ensures))

pub returns : goal.returns
returns c = indices-are _ _ _ _ (omega arith) (omega (arith, c.in-Some.ensures)) (omega arith)
