-- The slot is zeroed, or all its bytes are to be stored to.
use Rattle.std.proofs.Common.{rules}
use Rattle.memory.proofs.Lent.{slot_cleared}
use Rattle.memory.proofs.MadeReady.{ready_same, ready_whole}
use Rattle.memory.proofs.storage.Storage.ready.Goals as goal

pub returns-then-n-ne-RISCV_PAGESIZE-clause-area : goal.returns-then-n-ne-RISCV_PAGESIZE-clause-area
returns-then-n-ne-RISCV_PAGESIZE-clause-area c = search (rules, ready_same, slot_cleared)

pub returns-else-n-ne-RISCV_PAGESIZE-clause-area : goal.returns-else-n-ne-RISCV_PAGESIZE-clause-area
returns-else-n-ne-RISCV_PAGESIZE-clause-area c = search (rules, ready_whole)
