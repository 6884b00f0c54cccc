-- The contract of each public function leaves one outcome: two that both meet it are equal.
use mathlib.Core.Path.{◌≡◌}
use Prim.Native.Nat.{ℕ, min}
use mathlib.Core.List.{List}
use lib.ListN.{length, take}
use Rattle.bits.specs.Rounding.{page_size}
use Rattle.words.specs.Bytes.{written, filled}
use Rattle.words.specs.LittleEndian.{to_le, Read}

pub read_le_once : (s : List ℕ) (at n r q : ℕ) → Read s at (min n 8) r → Read s at (min n 8) q → r ≡ q
read_le_once s at n r q h k = cc (h.value, k.value)

pub write_le_once : (s t u : List ℕ) (at n x : ℕ) → t ≡ written s at (to_le n x) → u ≡ written s at (to_le n x) → t ≡ u
write_le_once s t u at n x h k = cc

pub copy_once : (d s t u : List ℕ) → t ≡ written d 0 (take page_size s) → u ≡ written d 0 (take page_size s) → t ≡ u
copy_once d s t u h k = cc

pub fill_once : (d t u : List ℕ) (v : ℕ) → t ≡ filled (length d) v → u ≡ filled (length d) v → t ≡ u
fill_once d t u v h k = cc

pub least_once : (a b r q : ℕ) → r ≡ min a b → q ≡ min a b → r ≡ q
least_once a b r q h k = cc
