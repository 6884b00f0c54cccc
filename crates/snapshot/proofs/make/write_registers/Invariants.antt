-- The register records that are left make all of them.
use Rattle.snapshot.proofs.Writing.{WritingRegisters}
use Rattle.snapshot.proofs.make.write_registers.Given as goal

abbrev pub invariant-loop-i : goal.invariant-loop-i
invariant-loop-i l = WritingRegisters l.registers l.initial.file l.file l.i
