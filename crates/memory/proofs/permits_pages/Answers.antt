-- The pages that are left come to what all come to.
use Rattle.std.proofs.Common.{rules, ◌+◌}
use Rattle.memory.proofs.Flags.{permits-past, permits_not, permits-next, permits-done}
use Rattle.memory.proofs.permits_pages.Goals as goal

pub returns-then-p-flags : goal.returns-then-p-flags
returns-then-p-flags c = λ sl ar m. let v = c.loop-page.invariant sl ar in search (rules, permits-past)

pub returns-then-flags-p : goal.returns-then-flags-p
returns-then-flags-p c = λ sl ar m. let v = c.loop-page.invariant sl ar in search (rules, permits_not)

pub loop-page-preserved : goal.loop-page-preserved
loop-page-preserved c = λ sl ar. let v = c.loop-page.invariant sl ar in search (rules, permits-next)

pub returns : goal.returns
returns c = λ sl ar m. let v = c.loop-page.invariant sl ar in search (rules, permits-done)

-- the last page, which is done
pub returns-else-flags-p : goal.returns-else-flags-p
returns-else-flags-p c = λ sl ar m.
    let page = c.loop-page.page in
    let w = permits-next sl c.args.flags.now ar _ c.args.last c.args.flag page (c.loop-page.invariant sl ar) (search rules) (search rules) (search rules) in
    permits-done _ _ _ _ _ _ (page + 1) w m (search rules)
