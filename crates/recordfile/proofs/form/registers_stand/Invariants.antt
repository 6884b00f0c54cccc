-- Invariant: the register records that are left come to what all of them come to.
use Rattle.recordfile.specs.Reader.{left}
use Rattle.recordfile.proofs.Judging.{RegistersTo}
use Rattle.recordfile.proofs.form.registers_stand.Given as goal

abbrev pub invariant-loop-i : goal.invariant-loop-i
invariant-loop-i l = RegistersTo (left l.initial.records) (left l.records) l.i
