-- Numbers as bytes, lowest first. Document 01 says of loads and stores: "All little-endian."
use Rattle.std.specs.Prelude.{◌≡◌, ℕ, zero, suc, ◌+◌, ◌*◌, ◌/◌, ◌%◌, ◌^◌, ◌<◌, List, [], ◌∷◌, get_or}
use Rattle.words.specs.Bytes.{part}

-- the number whose bytes, lowest first, are l
unfoldable pub from_le : List ℕ → ℕ
from_le [] = 0
from_le (b ∷ l) = b + 256 * from_le l

-- the n lowest bytes of x, lowest first
unfoldable pub to_le : ℕ → ℕ → List ℕ
to_le zero x = []
to_le (suc n) x = (x % 256) ∷ to_le n (x / 256)

-- every element is a byte
abbrev pub Small : List ℕ → Type 0
Small l = (i : ℕ) → get_or l i 0 < 256

-- r is the number in the n bytes of s from at on, or in as many of them as there are
pub record Read (s : List ℕ) (at n r : ℕ) : Type 0 where
  pub value : r ≡ from_le (part s at n)
  pub small : r < 256 ^ n
