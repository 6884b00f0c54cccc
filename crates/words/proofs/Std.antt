-- std's bytes of a number are those of specs/, both ways; and a part of a slice as std leaves it is `written`.
use Rattle.std.proofs.Common.{◌≡◌, ℕ, zero, suc, ◌+◌, ◌-◌, ◌*◌, ◌/◌, ◌%◌, ◌^◌, ◌≤◌, ◌<◌, min, List, [], ◌∷◌, ◌++◌, length, take, drop, get_or, replicate, refl, ap, sym, ◌∙◌, arith, take_all, length-take, length-drop, length-append, take-append-drop, append-nil}
use Rattle.std.proofs.Math.Nat.{div-div-eq-div-mul, pow-suc}
use native.Mathlib.Nat.{pow-succ', pow-le-pow_right}
use native.Mathlib.Decide.{dec_le}
use lib.Seq.{take-take, drop-drop}
use Rattle.std.proofs.lemmas.List.{drop_all}
use Rattle.std.specs.Prelude.{slice_index}
use Rattle.std.specs.Int.{w64, byte_at, bytes_low_first, to_le_bytes, from_le_bytes}
use borrow.Rule.Slice.PartMut.{put_mid}
use Rattle.bits.specs.Rounding.{page_size}
use Rattle.words.specs.Bytes.{part, written, filled}
use Rattle.words.specs.LittleEndian.{from_le, to_le, Small, Read}
use Rattle.words.proofs.LittleEndian.{length-to_le, small-part}
use Rattle.words.proofs.Filled.{length-filled, take-filled}
use Rattle.words.proofs.Written.{written-fits, written_cut, written_end, written_next, length-written}

-- ---- a number's bytes

-- fewer of the lowest bytes
pub take-to_le : (n k x : ℕ) → n ≤ k → take n (to_le k x) ≡ to_le n x
unfolding to_le
take-to_le zero k x h = refl
take-to_le (suc n) zero x h = absurd (omega arith)
take-to_le (suc n) (suc k) x h = ap (λ l. (x % 256) ∷ l) (take-to_le n k (x / 256) (omega arith))

byte_at-is : (i x y : ℕ) → y ≡ x / 256 ^ i → byte_at i x ≡ y % 256
byte_at-is zero x y e = ap (λ n. n % 256) (omega arith)
byte_at-is (suc i) x y e = ap (λ n. n % 256) (sym e)

low_first : (i k x y : ℕ) → y ≡ x / 256 ^ i → bytes_low_first i k x ≡ to_le k y
unfolding to_le
low_first i zero x y e = refl
low_first i (suc k) x y e =
    let d : y / 256 ≡ x / 256 ^ suc i = ap (λ n. n / 256) e ∙ div-div-eq-div-mul x (256 ^ i) 256 ∙ ap (λ n. x / n) (sym (pow-suc 256 i)) in
    rw (byte_at-is i x y e, low_first (suc i) k x (y / 256) d) refl

pub to_le-std : (k x : ℕ) → bytes_low_first 0 k x ≡ to_le k x
to_le-std k x = low_first 0 k x x (omega arith)

-- the n lowest of std's eight bytes
pub low_bytes : (n x : ℕ) → n ≤ 8 → take n (to_le_bytes w64 x) ≡ to_le n x
low_bytes n x h = ap (λ l. take n l) (to_le-std 8 x) ∙ take-to_le n 8 x h

pub low_of : (n x : ℕ) (bytes : List ℕ) → n ≤ 8 → bytes ≡ to_le_bytes w64 x → to_le n x ≡ take n bytes
low_of n x bytes h e = sym (low_bytes n x h) ∙ ap (λ l. take n l) (sym e)

-- ---- and back

from_le-drop : (xs : List ℕ) (i : ℕ) → from_le (drop i xs) ≡ get_or xs i 0 + 256 * from_le (drop (suc i) xs)
unfolding from_le
from_le-drop [] zero = refl
from_le-drop [] (suc i) = refl
from_le-drop (x ∷ xs) zero = refl
from_le-drop (x ∷ xs) (suc i) = from_le-drop xs i

none : (xs : List ℕ) (n : ℕ) → length xs ≤ n → from_le (drop n xs) ≡ 0
unfolding from_le
none xs n h = ap from_le (drop_all n xs h)

pub from_le-std : (xs : List ℕ) → length xs ≡ 8 → from_le_bytes w64 xs ≡ from_le xs
from_le-std xs h =
    let p = from_le-drop xs in
    omega (arith, p 0, p 1, p 2, p 3, p 4, p 5, p 6, p 7, none xs 8 (omega arith))

from_le-append : (xs zs : List ℕ) → from_le zs ≡ 0 → from_le (xs ++ zs) ≡ from_le xs
unfolding from_le
from_le-append [] zs e = e
from_le-append (x ∷ xs) zs e = ap (λ n. x + 256 * n) (from_le-append xs zs e)

from_le-zeros : (n k : ℕ) → from_le (drop n (replicate k 0)) ≡ 0
unfolding from_le
from_le-zeros zero zero = refl
from_le-zeros (suc n) zero = refl
from_le-zeros zero (suc k) = let e = from_le-zeros zero k in omega arith
from_le-zeros (suc n) (suc k) = from_le-zeros n k

-- n bytes at the front of eight, and zeros behind them
pub from_le-front : (n : ℕ) (q : List ℕ) → n ≤ 8 → length q ≡ n → from_le_bytes w64 (q ++ drop n (replicate 8 0)) ≡ from_le q
from_le-front n q h e =
    from_le-std (q ++ drop n (replicate 8 0)) (simp (length-append, length-drop) (omega arith))
    ∙ from_le-append q (drop n (replicate 8 0)) (from_le-zeros n 8)

-- the same, byte by byte
pub spelled : (n : ℕ) (q bytes : List ℕ) → n ≤ 8 → length q ≡ n → bytes ≡ q ++ drop n (replicate 8 0)
    → from_le_bytes w64 bytes
    ≡ slice_index bytes 0
    + 256
    * (slice_index bytes 1
    + 256
    * (slice_index bytes 2
    + 256
    * (slice_index bytes 3 + 256 * (slice_index bytes 4 + 256 * (slice_index bytes 5 + 256 * (slice_index bytes 6 + 256 * slice_index bytes 7))))))
spelled n q bytes h e is =
    let l : length bytes ≡ 8 = rw is (simp (length-append, length-drop) (omega arith)) in
    let p = from_le-drop bytes in
    omega (arith, from_le-std bytes l, p 0, p 1, p 2, p 3, p 4, p 5, p 6, p 7, none bytes 8 (omega arith))

-- bytes make a number that they are enough for
pub from_le-bound : (l : List ℕ) → Small l → from_le l < 256 ^ length l
unfolding from_le
from_le-bound [] h = omega arith
from_le-bound (b ∷ l) h =
    let k : from_le l < 256 ^ length l = from_le-bound l (λ i. h (suc i)) in
    let z : b < 256 = h 0 in
    rw pow-succ' (omega arith)

-- ---- parts that are cut at the end of a slice

module _ (s : List ℕ) (at from : ℕ) (start : from ≡ min at (length s)) where
  -- the n bytes from `at` on, or as many of them as there are
  pub part-cut : (n k : ℕ) → k ≡ min n (length s - from) → part s from k ≡ part s at n
  part-cut n k e = elim (dec_le at (length s)) [
    | yes h ↦
        let f : from ≡ at = omega arith in
        let l : length (drop at s) ≡ length s - at = length-drop at s in
        rw f (elim (dec_le n (length s - at)) [
          | yes g ↦ let z : k ≡ n = omega arith in rw z
          | no g ↦ take_all k (drop at s) (omega arith) ∙ sym (take_all n (drop at s) (omega arith))
        ])
    | no h ↦
        let z : k ≡ 0 = omega arith in
        let a : drop at s ≡ [] = drop_all at s (omega arith) in
        rw (z, a) (sym (take_all n [] (omega arith)))
  ]

  -- what is laid into such a part, and where it is written
  pub put_written : (l q : List ℕ) (k m : ℕ) → k ≡ min (length l) (length s - from) → m ≡ k → q ≡ take k l
      → put_mid from m s q ≡ written s at l
  put_written l q k m e em eq = elim (dec_le at (length s)) [
    | yes h ↦
        let f : from ≡ at = omega arith in
        let n : length (take k l) ≡ k = length-take k l ∙ omega arith in
        rw (em, f, eq)
        (sym
        (sym (written_cut s l at k (omega arith))
        ∙ written-fits s (take k l) at (omega arith)
        ∙ ap (λ (j : ℕ). take at s ++ (take k l ++ drop j s)) (omega arith)
        ∙ ap (λ (t : List ℕ). take at s ++ (take k l ++ t)) (sym (drop-drop k at s))))
    | no h ↦
        let f : from ≡ length s = omega arith in
        let z : k ≡ 0 = omega arith in
        let e0 : written s at l ≡ s = written_end s l at (omega arith) in
        rw (em, f, eq, z) (take-append-drop (length s) s ∙ sym e0)
  ]

-- ---- what `read_le` reads
pub read_part : (s q : List ℕ) (at n from k m r : ℕ) → Small s → from ≡ min at (length s) → k ≡ min (min n 8) (length s - from) → m ≡ k
    → q ≡ take m (drop from s) → r ≡ from_le_bytes w64 (q ++ drop k (replicate 8 0))
    → Read s at (min n 8) r
read_part s q at n from k m r small start e em eq er =
    let d : q ≡ part s from k = eq ∙ rw em in
    let l : length q ≡ k = rw d (length-take k (drop from s) ∙ simp length-drop (omega arith)) in
    let v : r ≡ from_le q = er ∙ from_le-front k q (omega arith) l in
    let b : from_le q < 256 ^ length q = from_le-bound q (rw d (small-part s from k small)) in
    let g : 256 ^ length q ≤ 256 ^ min n 8 = pow-le-pow_right (omega arith) (omega arith) in
    record { value = v ∙ ap from_le (d ∙ part-cut s at from start (min n 8) k e); small = omega arith }

-- ---- what `write_le` leaves

zeros : (n : ℕ) → to_le n 0 ≡ filled n 0
unfolding to_le filled
zeros zero = refl
zeros (suc n) = ap (λ l. 0 ∷ l) (zeros n)

-- past a number's bytes are zeros
high_zeros : (n a b x : ℕ) → n ≡ a + b → x < 256 ^ a → to_le n x ≡ to_le a x ++ filled b 0
unfolding to_le
high_zeros n zero b x e h = let z : x ≡ 0 = omega arith in let k : n ≡ b = omega arith in rw (z, k) (zeros b)
high_zeros zero (suc a) b x e h = absurd (omega arith)
high_zeros (suc n) (suc a) b x e h =
    let p : 256 ^ suc a ≡ 256 * 256 ^ a = pow-succ' 256 a in
    ap (λ l. (x % 256) ∷ l) (high_zeros n a b (x / 256) (omega arith) (omega (arith, p)))

low_high : (n m k x : ℕ) → m ≡ min n 8 → k ≡ n - m → x < 256 ^ 8 → to_le n x ≡ to_le m x ++ filled k 0
unfolding filled
low_high n m k x em ek h = elim (dec_le n 8) [
  | yes g ↦
      let e : m ≡ n = omega arith in
      let z : k ≡ 0 = omega arith in
      rw (e, z) (sym (append-nil (to_le n x)))
  | no g ↦ let e : m ≡ 8 = omega arith in rw e (high_zeros n 8 k x (omega arith) h)
]

-- the bytes of a number that there is room for, and zeros past the eighth
pub number-written : (s t q z bytes : List ℕ) (at n x from k m : ℕ) → x < 18446744073709551616 → from ≡ min at (length s) → k ≡ min (min n 8) (length s - from)
    → m ≡ min n (length s - from) → bytes ≡ to_le_bytes w64 x → q ≡ take (from + k - from) bytes → t ≡ put_mid from (from + k - from) s q
    → z ≡ filled (from + m - (from + k)) 0
    → put_mid (from + k) (from + m - (from + k)) t z ≡ written s at (to_le n x)
number-written s t q z bytes at n x from k m small start e em eb eq et ez =
    let kk : from + k - from ≡ k = omega arith in
    let low : t ≡ written s at (to_le (min n 8) x) =
    et
    ∙ put_written s at from start (to_le (min n 8) x) q k (from + k - from) (rw length-to_le e) (omega arith)
    (eq ∙ rw (eb, kk) (low_bytes k x (omega arith)) ∙ sym (take-to_le k (min n 8) x (omega arith))) in
    let long : length t ≡ length s = rw low (length-written s (to_le (min n 8) x) at) in
    let high : put_mid (from + k) (from + m - (from + k)) t z ≡ written t (at + min n 8) (filled (n - min n 8) 0) =
    put_written t (at + min n 8) (from + k) (omega arith) (filled (n - min n 8) 0) z (from + m - (from + k)) (from + m - (from + k))
    (rw length-filled (omega arith)) refl (ez ∙ sym (take-filled (from + m - (from + k)) (n - min n 8) 0 (omega arith))) in
    high
    ∙ ap (λ (l : List ℕ). written l (at + min n 8) (filled (n - min n 8) 0)) low
    ∙ ap (λ (j : ℕ). written (written s at (to_le (min n 8) x)) (at + j) (filled (n - min n 8) 0)) (sym (length-to_le (min n 8) x))
    ∙ written_next s (to_le (min n 8) x) (filled (n - min n 8) 0) at
    ∙ ap (λ (l : List ℕ). written s at l) (sym (low_high n (min n 8) (n - min n 8) x refl refl (omega (arith, small))))

-- ---- what `copy` leaves
pub copied : (d s q : List ℕ) (m n : ℕ) → m ≡ min (length d) (length s) → n ≡ min m page_size → q ≡ take n s
    → q ++ drop n d ≡ written d 0 (take page_size s)
copied d s q m n em e eq =
    put_written d 0 0 (omega arith) (take page_size s) q n n (rw length-take (omega arith)) refl
    (eq ∙ sym (take-take n page_size s (omega arith)))
