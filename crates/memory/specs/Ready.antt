-- A slot that is made ready for a store.
use Rattle.std.specs.Prelude.{◌≡◌, ℕ, ◌+◌, ◌*◌, ◌≤◌, List, length, ◌≢◌}
use Rattle.bits.specs.Rounding.{page_size}
use Rattle.words.specs.Bytes.{written}

-- once n bytes are stored in the slot, the area is what a fetch should have left, with them stored; a fetch that was refused
-- left that itself
pub record Ready (number n slot : ℕ) (asked left : List ℕ) : Type 0 where
  pub refused : (number ≢ 0) → left ≡ asked
  pub same : (at : ℕ) (bytes : List ℕ) → length bytes ≡ n → at + n ≤ page_size
      → written left (slot * page_size + at) bytes ≡ written asked (slot * page_size + at) bytes
