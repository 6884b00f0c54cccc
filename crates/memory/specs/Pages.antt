-- Pages, their flags, and the pages that a number of bytes from an address on lies on.
use Rattle.std.specs.Prelude.{ℕ, ◌+◌, ◌-◌, ◌/◌, cond, ◌==◌, bit_and, nat_le}
use Rattle.bits.specs.Rounding.{page_size}

-- "maximum memory 4,194,304 bytes (1,024 pages)"
abbrev pub maximum : ℕ
maximum = 4194304

-- "flags frozen 1, executable 2, W^X bit 2, writable 0, dirty 4"
abbrev pub frozen : ℕ
frozen = 1

abbrev pub executable : ℕ
executable = 2

abbrev pub wxorx_bit : ℕ
wxorx_bit = 2

abbrev pub writable : ℕ
writable = 0

abbrev pub dirty : ℕ
dirty = 4

-- a flag is a byte: what is left of it where the bits of another are cleared, "AND with complement"
abbrev pub cleared : ℕ → ℕ → ℕ
cleared f bits = bit_and f (255 - bits)

-- a number of document 01's table, and the first and the last page; "A refused call gives 0 for each number"
pub record PageIndices : Type 0 where
  pub number : ℕ
  pub first : ℕ
  pub last : ℕ

abbrev pub no_indices : ℕ → PageIndices
no_indices n = record { number = n; first = 0; last = 0 }

-- the pages of so many bytes from an address on, where their end doesn't pass a bound; "Size 0, which the Rust only asserts
-- against, is refused 2."
unfoldable pub pages_within : ℕ → ℕ → ℕ → PageIndices
pages_within bound address size =
    cond (size == 0)
    (no_indices 2)
    (cond (nat_le (address + size) bound)
    (record { number = 0; first = address / page_size; last = (address + size - 1) / page_size })
    (no_indices 2))

-- "Page indices of (address, size), size above 0: refuse 2 if the sum passes 2^64-1 or 4,194,304 (the maximum, not this
-- machine's size)."
abbrev pub page_indices : ℕ → ℕ → PageIndices
page_indices address size = pages_within maximum address size
