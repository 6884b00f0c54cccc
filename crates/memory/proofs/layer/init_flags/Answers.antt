-- The pages that are left come to what all come to.
use Rattle.std.proofs.Common.{rules}
use Rattle.memory.proofs.Flags.{inits-past, inits-frozen, inits-next, inits-done}
use Rattle.memory.proofs.layer.init_flags.Goals as goal

pub returns-then-p-flags : goal.returns-then-p-flags
returns-then-p-flags c = λ sl ar m. let v = c.loop-page.invariant sl ar in search (rules, inits-past)

pub returns-then-flags-p-ne0 : goal.returns-then-flags-p-ne0
returns-then-flags-p-ne0 c = λ sl ar m. let v = c.loop-page.invariant sl ar in search (rules, inits-frozen)

pub loop-page-preserved : goal.loop-page-preserved
loop-page-preserved c = λ sl ar. let v = c.loop-page.invariant sl ar in search (rules, inits-next)

pub returns : goal.returns
returns c = λ sl ar m. let v = c.loop-page.invariant sl ar in search (rules, inits-done)
