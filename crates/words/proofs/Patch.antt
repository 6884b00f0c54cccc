-- Laws of `part` and `patch`: what was put in is there, a part put back changes nothing, and a patch goes on where one ended.
use mathlib.Core.Path.{◌≡◌, sym}
use Prim.Native.Nat.{ℕ, ◌+◌, ◌≤◌}
use native.Mathlib.Nat.{add-zero}
use native.Mathlib.Omega.{arith}
use mathlib.Core.List.{List, [], ◌++◌, append_assoc}
use lib.ListN.{length, take, drop, length-append, length-drop, take-append-drop}
use lib.Seq.{take-append_seam, take_at, drop_at, drop-drop, length-take-le}
use Rattle.words.specs.Bytes.{part, patch}

pub length_part : (s : List ℕ) (at n : ℕ) → at + n ≤ length s → length (part s at n) ≡ n
length_part s at n h = length-take-le n (drop at s) (simp length-drop (omega arith))

pub patch_none : (s : List ℕ) (at : ℕ) → patch s at [] ≡ s
patch_none s at = rw (add-zero, take-append-drop)

-- a part put back where it was changes nothing
pub patch-part : (s : List ℕ) (at n : ℕ) → at + n ≤ length s → patch s at (part s at n) ≡ s
patch-part s at n h = rw (length_part s at n h, ← drop-drop n at s, take-append-drop, take-append-drop)

module _ (s l : List ℕ) (at : ℕ) (fits : at + length l ≤ length s) where
  -- what was put in is there
  pub part-patch : part (patch s at l) at (length l) ≡ l
  part-patch = rw (drop_at (take at s) (l ++ drop (at + length l) s) at (length-take-le at s (omega arith)), take-append_seam)

  pub length-patch : length (patch s at l) ≡ length s
  length-patch = simp (length-append, length-take-le at s (omega arith), length-drop) (omega arith)

-- a patch that goes on where one of n bytes ended
pub patch_next : (s l m : List ℕ) (at n : ℕ) → length l ≡ n → at + n ≤ length s → patch (patch s at l) (at + n) m ≡ patch s at (l ++ m)
patch_next s l m at n e h =
    let p : List ℕ = take at s ++ l in
    let r : List ℕ = drop (at + n) s in
    let lp : length p ≡ at + n = simp (length-append, length-take-le at s (omega arith), e) in
    let a : take at s ++ (l ++ r) ≡ p ++ r = sym (append_assoc (take at s) l r) in
    let t : take (at + n) (take at s ++ (l ++ r)) ≡ p = rw a (take_at p r (at + n) lp) in
    let d : drop (at + n + length m) (take at s ++ (l ++ r)) ≡ drop (at + n + length m) s =
    rw (a, ← drop-drop (length m) (at + n) (p ++ r), drop_at p r (at + n) lp, drop-drop) in
    let k : at + n + length m ≡ at + (n + length m) = omega arith in
    rw (e, t, d, length-append, e, k) (simp append_assoc)
