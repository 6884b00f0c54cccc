-- Where rounding up wraps to 0, and what both roundings are everywhere else.
use Rattle.std.proofs.Common.{◌≡◌, ℕ, ◌+◌, ◌-◌, ◌%◌, ◌^◌, ◌<◌, ◌≤◌, arith}
use Rattle.bits.specs.Rounding.{page_size, rounded_up, rounded_down}

-- THE WRAP: above the last whole page rounding up gives 0
pub up_wraps_to_0 : (x : ℕ) → 2 ^ 64 - page_size < x → x < 2 ^ 64 → rounded_up x ≡ 0
up_wraps_to_0 x above fits = omega arith

-- r is the least multiple of the page size that is x or more
pub record LeastAbove (x r : ℕ) : Type 0 where
  pub whole : r % page_size ≡ 0
  pub above : x ≤ r
  pub least : r < x + page_size

-- r is the greatest multiple of the page size that is x or less
pub record GreatestBelow (x r : ℕ) : Type 0 where
  pub whole : r % page_size ≡ 0
  pub below : r ≤ x
  pub greatest : x < r + page_size

-- nowhere else does it wrap
pub up_exact : (x : ℕ) → x ≤ 2 ^ 64 - page_size → LeastAbove x (rounded_up x)
up_exact x h = record { whole = omega arith; above = omega arith; least = omega arith }

-- rounding down never wraps
pub down_exact : (x : ℕ) → GreatestBelow x (rounded_down x)
down_exact x = record { whole = omega arith; below = omega arith; greatest = omega arith }
