-- No second outcome fits a promise of this crate.
use Prim.Native.Nat.{ℕ}
use mathlib.Core.Path.{◌≡◌}
use mathlib.Core.Bool.{Bool}
use Rattle.outcome.specs.Numbers.{Outcome, number_of, is_done}

pub number_call_once : (o : Outcome) (r s : ℕ) → r ≡ number_of o → s ≡ number_of o → r ≡ s
number_call_once o r s p q = cc

pub is_done_once : (o : Outcome) (r s : Bool) → r ≡ is_done o → s ≡ is_done o → r ≡ s
is_done_once o r s p q = cc
