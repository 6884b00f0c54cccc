use Rattle.std.proofs.Common.{refl, ◌∙◌, ne_eqb}
use Rattle.machine.proofs.Laws.{records_odd, records-told}
use Rattle.machine.proofs.records_fit.Goals as goal

pub returns-then-words-eq0 : goal.returns-then-words-eq0
returns-then-words-eq0 c = records-told _ _ _ c.if-words-eq0.true refl

pub returns-else-words-eq0 : goal.returns-else-words-eq0
returns-else-words-eq0 c = ne_eqb _ _ c.if-words-eq0.false ∙ records_odd _ _ c.if-words-eq0.false
