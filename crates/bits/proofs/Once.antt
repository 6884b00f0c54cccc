-- No second outcome fits a promise of this crate.
use Rattle.std.proofs.Common.{◌≡◌, ℕ}
use Rattle.bits.specs.Rounding.{rounded_up, rounded_down}

pub round_page_up_once : (x r s : ℕ) → r ≡ rounded_up x → s ≡ rounded_up x → r ≡ s
round_page_up_once x r s p q = cc

pub round_page_down_once : (x r s : ℕ) → r ≡ rounded_down x → s ≡ rounded_down x → r ≡ s
round_page_down_once x r s p q = cc
