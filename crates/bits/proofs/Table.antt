-- The roundings that document 01 works out.
use Rattle.std.proofs.Common.{◌≡◌, ◌-◌, ◌^◌, refl}
use Rattle.bits.specs.Rounding.{rounded_up, rounded_down}

-- "0 gives 0, 4,097 gives 8,192, 2^64-1 gives 0. Rounding 4,095 down gives 0."
pub record Roundings : Type 0 where
  pub up_0 : rounded_up 0 ≡ 0
  pub up_4097 : rounded_up 4097 ≡ 8192
  pub up_last : rounded_up (2 ^ 64 - 1) ≡ 0
  pub down_4095 : rounded_down 4095 ≡ 0

pub roundings : Roundings
roundings = record { up_0 = refl; up_4097 = refl; up_last = refl; down_4095 = refl }
