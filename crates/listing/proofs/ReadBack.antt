-- A decimal is read back as its number, and begins with 0 for 0 alone.
use mathlib.Core.Path.{◌≡◌, refl, sym, ap, ◌∙◌}
use mathlib.Core.List.{List, [], ◌∷◌, ◌++◌}
use Prim.Native.Nat.{ℕ, zero, suc, ◌+◌, ◌-◌, ◌*◌, ◌/◌, ◌%◌, ◌^◌, ◌≤◌, ◌<◌}
use native.Mathlib.Nat.{pow-succ'}
use native.Mathlib.Decide.{dec_lt}
use native.Mathlib.Omega.{arith}
use lib.ListN.{get_or}
use Rattle.listing.specs.Decimals.{digit, digits_of, decimal}
use Rattle.listing.proofs.Digits.{digits_one, digits_more}

first_stays : (ds es : List ℕ) → 49 ≤ get_or ds 0 0 → 49 ≤ get_or (ds ++ es) 0 0
first_stays [] es h = absurd (omega arith)
first_stays (d ∷ ds) es h = h

-- the number that digits read so far and those that follow are
unfoldable pub read_on : ℕ → List ℕ → ℕ
read_on n [] = n
read_on n (d ∷ ds) = read_on (10 * n + (d - 48)) ds

read_snoc : (n : ℕ) (ds : List ℕ) (d : ℕ) → read_on n (ds ++ (d ∷ [])) ≡ 10 * read_on n ds + (d - 48)
unfolding read_on
read_snoc n [] d = refl
read_snoc n (b ∷ ds) d = read_snoc (10 * n + (b - 48)) ds d

digits_back : (k n : ℕ) → n < 10 ^ k → read_on 0 (digits_of k n) ≡ n
unfolding read_on digits_of
digits_back zero n h = omega arith
digits_back (suc k) n h = elim (dec_lt n 10) [
  | yes l ↦ rw (digits_one k n l) (omega arith)
  | no l ↦
      let p : 10 ^ suc k ≡ 10 * 10 ^ k = pow-succ' 10 k in
      rw (digits_more k n (omega arith), read_snoc, digits_back k (n / 10) (omega arith)) (omega arith)
]

-- A NUMBER BELOW 2^64 COMES BACK FROM ITS TEXT
pub decimal_back : (n : ℕ) → n < 2 ^ 64 → read_on 0 (decimal n) ≡ n
unfolding decimal
decimal_back n h = digits_back 20 n (omega arith)

-- so two that have the same text are the same
pub decimal_once : (m n : ℕ) → m < 2 ^ 64 → n < 2 ^ 64 → decimal m ≡ decimal n → m ≡ n
decimal_once m n h k e = sym (decimal_back m h) ∙ ap (read_on 0) e ∙ decimal_back n k

-- no 0 stands before the others
digits_first : (k n : ℕ) → 1 ≤ n → n < 10 ^ k → 49 ≤ get_or (digits_of k n) 0 0
unfolding digits_of
digits_first zero n h l = absurd (omega arith)
digits_first (suc k) n h l = elim (dec_lt n 10) [
  | yes b ↦ rw (digits_one k n b) (omega arith)
  | no b ↦
      let p : 10 ^ suc k ≡ 10 * 10 ^ k = pow-succ' 10 k in
      let i : 49 ≤ get_or (digits_of k (n / 10)) 0 0 = digits_first k (n / 10) (omega arith) (omega arith) in
      rw (digits_more k n (omega arith)) (first_stays (digits_of k (n / 10)) (digit (n % 10) ∷ []) i)
]

pub decimal-first : (n : ℕ) → 1 ≤ n → n < 2 ^ 64 → 49 ≤ get_or (decimal n) 0 0
unfolding decimal
decimal-first n h k = digits_first 20 n h (omega arith)
