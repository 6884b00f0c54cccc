-- A fresh memory: what is left in the lent storage where its lengths are right, and where they are not.
use Rattle.std.proofs.Common.{◌≡◌, ℕ, Bool, true, false, List, length}
use Rattle.words.specs.Bytes.{filled}
use Rattle.memory.specs.Storage.{state_of, absent, fits_lengths, fresh_memory, no_memory, fresh}

module _ (slots flags area : List ℕ) (size : ℕ) (b : Bool)
    (e : b ≡ fits_lengths (length slots) (length flags) (length area) (fresh_memory size)) where
  pub fresh_unfit : b ≡ false → (9, state_of slots flags area no_memory) ≡ fresh slots flags area size
  unfolding fresh
  fresh_unfit t = rw (← e, t)

  pub fresh-made : (x y : List ℕ) → b ≡ true → x ≡ filled (length slots) absent → y ≡ filled (length flags) 0
      → (0, state_of x y area (fresh_memory size)) ≡ fresh slots flags area size
  unfolding fresh
  fresh-made x y t p q = rw (p, q, ← e, t)
