-- The pages that are left come to what all come to.
use Rattle.std.proofs.Common.{rules, ◌+◌}
use Rattle.memory.proofs.Flags.{marks-past, marks-next, marks-done}
use Rattle.memory.proofs.mark_pages.Goals as goal

pub returns-then-p-flags : goal.returns-then-p-flags
returns-then-p-flags c = λ sl ar m. let v = c.loop-page.invariant sl ar in search (rules, marks-past)

pub loop-page-preserved : goal.loop-page-preserved
loop-page-preserved c = λ sl ar. let v = c.loop-page.invariant sl ar in search (rules, marks-next)

pub returns : goal.returns
returns c = λ sl ar m. let v = c.loop-page.invariant sl ar in search (rules, marks-done)

-- the last page, which is done
pub returns-else-p-flags : goal.returns-else-p-flags
returns-else-p-flags c = λ sl ar m.
    let page = c.loop-page.page in
    let w = marks-next _ _ _ _ _ c.args.last page (c.loop-page.invariant sl ar) (search rules) (search rules) in
    marks-done _ _ _ _ _ _ (page + 1) w m (search rules)
