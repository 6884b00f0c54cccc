-- Laws of `filled`: its length, its bytes, and the first of them.
use mathlib.Core.Path.{◌≡◌, refl}
use Prim.Native.Nat.{ℕ, zero, suc, ◌≤◌, ◌<◌}
use lib.ListN.{length, get_or, take, length-replicate, get_or-replicate}
use Rattle.std.proofs.lemmas.List.{take-replicate}
use Rattle.words.specs.Bytes.{filled}

pub length-filled : (n v : ℕ) → length (filled n v) ≡ n
unfolding filled
length-filled n v = length-replicate n v

pub filled_at : (n v i : ℕ) → i < n → get_or (filled n v) i 0 ≡ v
unfolding filled
filled_at n v i h = get_or-replicate n i v 0 h

-- a list of zeros, past its end too
pub filled_zero : (n i : ℕ) → get_or (filled n 0) i 0 ≡ 0
unfolding filled
filled_zero zero i = refl
filled_zero (suc n) zero = refl
filled_zero (suc n) (suc i) = filled_zero n i

-- the first of them
pub take-filled : (n m v : ℕ) → n ≤ m → take n (filled m v) ≡ filled n v
unfolding filled
take-filled n m v h = take-replicate n m v h
