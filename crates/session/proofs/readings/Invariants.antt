-- Invariant: the generator's state has 31 bits.
use Prim.Native.Nat.{◌<◌}
use Rattle.session.proofs.readings.Given as goal

abbrev pub invariant-loop-byte : goal.invariant-loop-byte
invariant-loop-byte l = l.x < 2147483648
