-- Lengths first; then it was the whole call, or nothing, and then the call goes on.
use Rattle.std.proofs.Common.{rules}
use Rattle.memory.specs.WXorX.{store_bytes}
use Rattle.memory.proofs.Lengths.{fit_not}
use Rattle.memory.proofs.ShortPath.{did_wxorx, did_on}
use Rattle.memory.proofs.layer.WXorXLayer.store_byte.Goals as goal

pub returns-then-not-fits-clause-value : goal.returns-then-not-fits-clause-value
unfolding store_bytes
returns-then-not-fits-clause-value c = search (rules, fit_not (λ n. n))

pub returns-then-store_here-clause-value : goal.returns-then-store_here-clause-value
returns-then-store_here-clause-value c = (did_wxorx _ _ _ _ _ c.store_here.ensures.value).yes c.if-store_here.true

pub returns-clause-value : goal.returns-clause-value
returns-clause-value c = did_on _ _ _ _ _ (did_wxorx _ _ _ _ _ c.store_here.ensures.value) c.if-store_here.false c.store_over.ensures.value
