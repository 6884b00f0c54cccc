-- Rounding to whole pages in plain arithmetic.
use Rattle.std.specs.Prelude.{ℕ, ◌+◌, ◌-◌, ◌*◌, ◌/◌, ◌%◌, ◌^◌}

-- "page 4,096 bytes"
abbrev pub page_size : ℕ
page_size = 4096

-- "Rounding up is computed modulo 2^64": the least number of whole pages that holds x, in bytes, modulo 2^64
abbrev pub rounded_up : ℕ → ℕ
rounded_up x = (x + (page_size - 1)) / page_size * page_size % 2 ^ 64

-- "Rounding 4,095 down gives 0": the whole pages in x, in bytes
abbrev pub rounded_down : ℕ → ℕ
rounded_down x = x / page_size * page_size
