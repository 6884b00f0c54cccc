-- Invariant: so many register records are read, and the others are left.
use Rattle.recordfile.specs.Reader.{left}
use Rattle.snapshot.proofs.RestoredRuns.{RegistersRead}
use Rattle.snapshot.proofs.resume.registers_in.Given as goal

abbrev pub invariant-loop-i : goal.invariant-loop-i
invariant-loop-i l = RegistersRead (left l.initial.records) l.registers (left l.records) l.i
