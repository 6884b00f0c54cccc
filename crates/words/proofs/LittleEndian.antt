-- Laws of `from_le` and `to_le`: a number's bytes and back, both ways round; and a turn of reading and of writing.
use mathlib.Core.Path.{◌≡◌, refl, ap, ◌∙◌}
use Prim.Native.Nat.{ℕ, zero, suc, ◌+◌, ◌*◌, ◌/◌, ◌%◌, ◌^◌, ◌<◌}
use native.Mathlib.Nat.{pow-succ', one-le-pow, mod-eq_of_lt, mod-one, mul_comm}
use native.Mathlib.Decide.{dec_lt}
use native.Mathlib.Omega.{arith}
use mathlib.Core.List.{List, [], ◌∷◌}
use lib.Arith.{mod-mul}
use lib.ListN.{length, drop, length-take, get_or-eq_default}
use lib.Seq.{get_or-take, get_or-drop}
use Rattle.words.specs.Bytes.{part}
use Rattle.words.specs.LittleEndian.{from_le, to_le, Small}

pub length-to_le : (n x : ℕ) → length (to_le n x) ≡ n
unfolding to_le
length-to_le zero x = refl
length-to_le (suc n) x = ap suc (length-to_le n (x / 256))

-- the number of x's n lowest bytes
pub from_le-to_le : (n x : ℕ) → from_le (to_le n x) ≡ x % 256 ^ n
unfolding from_le to_le
from_le-to_le zero x = rw mod-one
from_le-to_le (suc n) x =
    rw (from_le-to_le n (x / 256), pow-succ', mul_comm 256 (256 ^ n), mod-mul x {m = 256 ^ n} {c = 256} (one-le-pow n 256 (omega arith)) (omega arith)) (omega arith)

-- a number that fits comes back from its bytes
pub from_le-fits : (n x : ℕ) → x < 256 ^ n → from_le (to_le n x) ≡ x
from_le-fits n x h = from_le-to_le n x ∙ mod-eq_of_lt h

-- the elements of to_le are bytes
pub small-to_le : (n x : ℕ) → Small (to_le n x)
unfolding to_le
small-to_le zero x i = omega arith
small-to_le (suc n) x zero = omega arith
small-to_le (suc n) x (suc i) = small-to_le n (x / 256) i

-- a part of bytes is bytes
pub small-part : (s : List ℕ) (at n : ℕ) → Small s → Small (part s at n)
small-part s at n h i = elim (dec_lt i n) [
  | yes k ↦ rw (get_or-take n (drop at s) i 0 k, get_or-drop) (h (at + i))
  | no k ↦ rw (get_or-eq_default (part s at n) 0 {n = i} (rw length-take (omega arith))) (omega arith)
]

-- bytes come back from their number
pub to_le-from_le : (l : List ℕ) → Small l → to_le (length l) (from_le l) ≡ l
unfolding from_le to_le
to_le-from_le [] h = refl
to_le-from_le (b ∷ l) h =
    let hb : b < 256 = h 0 in
    let m : (b + 256 * from_le l) % 256 ≡ b = omega arith in
    let d : (b + 256 * from_le l) / 256 ≡ from_le l = omega arith in
    rw (m, d, to_le-from_le l (λ i. h (suc i)))
