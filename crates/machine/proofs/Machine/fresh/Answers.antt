use Rattle.std.proofs.Common.{refl, rules}
use Rattle.memory.proofs.Refused.{refused, passed_on}
use Rattle.machine.proofs.Laws.{fresh_odd, fresh-made, fresh-refused}
use Rattle.machine.proofs.Machine.fresh.Goals as goal

pub returns-then-not-records_fit-clause-value : goal.returns-then-not-records_fit-clause-value
returns-then-not-records_fit-clause-value c = search (rules, fresh_odd)

pub returns-in_err-memory-clause-value : goal.returns-in_err-memory-clause-value
returns-in_err-memory-clause-value c =
    rw (passed_on c.from_residual.ensures.1) (fresh-refused _ _ _ _ _ _ _ _ c.records_fit.ensures c.if-not-records_fit.false _ _ c.in_err-memory.ensures.value (refused c.in_err-memory.field-0.0))

pub returns-clause-value : goal.returns-clause-value
returns-clause-value c =
    rw c.fresh_machine.ensures (fresh-made _ _ _ _ _ _ _ _ c.records_fit.ensures c.if-not-records_fit.false _ _ c.in_ok-memory.ensures.value _ _ refl c.untrack_all.ensures refl)
