-- Bytes to be stored, of one value: how many they are, and parts of them.
use Rattle.std.proofs.Common.{◌≡◌, ℕ, ◌-◌, ◌≤◌, length, take, drop, sym, arith}
use Rattle.std.proofs.lemmas.List.{drop-replicate}
use Rattle.words.specs.Bytes.{filled}
use Rattle.words.proofs.Filled.{length-filled, take-filled}
use Rattle.memory.specs.Lent.{bytes_of}
use Rattle.memory.specs.declared.storage.Bytes.{Bytes}
use Rattle.memory.specs.declared.storage.Bytes.TheVariants.{Filled}

drop-filled : (n m v : ℕ) → drop n (filled m v) ≡ filled (m - n) v
unfolding filled
drop-filled n m v = drop-replicate n m v

module _ (b : Bytes) (v m : ℕ) (e : b ≡ Filled v m) where
  pub filled_len : m ≡ length (bytes_of b)
  filled_len = rw e (sym (length-filled m v))

  pub filled_some : (n : ℕ) → n ≤ length (bytes_of b) → n ≤ m
  filled_some n h = omega (arith, filled_len)

  pub filled_first : (n : ℕ) → n ≤ length (bytes_of b) → filled n v ≡ take n (bytes_of b)
  filled_first n h = let k = filled_some n h in rw e (sym (take-filled n m v k))

  pub filled_after : (n : ℕ) → n ≤ length (bytes_of b) → filled (m - n) v ≡ drop n (bytes_of b)
  filled_after n h = rw e (sym (drop-filled n m v))
