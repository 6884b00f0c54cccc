-- The register records that are left make all of them.
use Rattle.std.proofs.Common.{rules}
use Rattle.snapshot.proofs.Writing.{registers_first, registers_next, registers_done}
use Rattle.snapshot.proofs.make.write_registers.Goals as goal

pub loop-i-init : goal.loop-i-init
loop-i-init c = search (rules, registers_first)

pub loop-i-preserved : goal.loop-i-preserved
loop-i-preserved c = search (rules, registers_next)

pub returns : goal.returns
returns c = search (rules, registers_done)
