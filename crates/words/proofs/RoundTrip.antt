-- The round trips, over the width n: what was written is read, and what was read changes nothing when it is written back.
use mathlib.Core.Path.{◌≡◌, ◌∙◌}
use Prim.Native.Nat.{ℕ, ◌+◌, ◌%◌, ◌^◌, ◌≤◌, ◌<◌}
use native.Mathlib.Nat.{mod-eq_of_lt}
use native.Mathlib.Omega.{arith}
use mathlib.Core.List.{List}
use lib.ListN.{length}
use Rattle.words.specs.Bytes.{part, written}
use Rattle.words.specs.LittleEndian.{from_le, to_le, Small}
use Rattle.words.proofs.Patch.{length_part, patch-part}
use Rattle.words.proofs.Written.{written-fits, part-written}
use Rattle.words.proofs.LittleEndian.{length-to_le, from_le-to_le, to_le-from_le}

module _ (s : List ℕ) (at n : ℕ) (fits : at + n ≤ length s) where
  pub read_written : (x : ℕ) → from_le (part (written s at (to_le n x)) at n) ≡ x % 256 ^ n
  read_written x =
      let e : length (to_le n x) ≡ n = length-to_le n x in
      let p : part (written s at (to_le n x)) at n ≡ to_le n x = rw e at (part-written s (to_le n x) at (omega arith)) in
      rw p (from_le-to_le n x)

  pub read_written_fits : (x : ℕ) → x < 256 ^ n → from_le (part (written s at (to_le n x)) at n) ≡ x
  read_written_fits x h = read_written x ∙ mod-eq_of_lt h

  pub written_read : Small (part s at n) → written s at (to_le n (from_le (part s at n))) ≡ s
  written_read small =
      let e : length (part s at n) ≡ n = length_part s at n fits in
      let b : to_le n (from_le (part s at n)) ≡ part s at n = rw e at (to_le-from_le (part s at n) small) in
      rw b (written-fits s (part s at n) at (omega arith) ∙ patch-part s at n fits)
