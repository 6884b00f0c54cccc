-- Laws of `decimal`: one digit, one more digit, how many there are; and a byte as written.
use mathlib.Core.Path.{◌≡◌, sym, ap, ◌∙◌}
use mathlib.Core.List.{List, [], ◌∷◌, ◌++◌}
use Prim.Native.Nat.{ℕ, zero, suc, ◌*◌, ◌/◌, ◌%◌, ◌^◌, ◌≤◌, ◌<◌}
use native.Mathlib.Nat.{pow-succ'}
use native.Mathlib.Decide.{dec_lt}
use native.Mathlib.Omega.{arith}
use lib.ListN.{length, set, length-append}
use borrow.Author.Tests.{lt-ltb, le-ltb}
use Rattle.words.specs.Bytes.{written}
use Rattle.words.proofs.Written.{written_none, written_cons}
use Rattle.listing.specs.Decimals.{digit, digits_of, most_digits, decimal}

-- ---- digits

pub digits_one : (k n : ℕ) → n < 10 → digits_of (suc k) n ≡ digit n ∷ []
unfolding digits_of
digits_one k n h = simp (lt-ltb n 10 h)

pub digits_more : (k n : ℕ) → 10 ≤ n → digits_of (suc k) n ≡ digits_of k (n / 10) ++ (digit (n % 10) ∷ [])
unfolding digits_of
digits_more k n h = simp (le-ltb n 10 h)

-- where they are at most so many, one place more changes nothing
digits_enough : (k n : ℕ) → n < 10 ^ suc k → digits_of (suc k) n ≡ digits_of (suc (suc k)) n
digits_enough zero n h = digits_one 0 n (omega arith) ∙ sym (digits_one 1 n (omega arith))
digits_enough (suc k) n h = elim (dec_lt n 10) [
  | yes l ↦ digits_one (suc k) n l ∙ sym (digits_one (suc (suc k)) n l)
  | no l ↦
      let p : 10 ^ suc (suc k) ≡ 10 * 10 ^ suc k = pow-succ' 10 (suc k) in
      digits_more (suc k) n (omega arith)
      ∙ ap (λ (l : List ℕ). l ++ (digit (n % 10) ∷ [])) (digits_enough k (n / 10) (omega arith))
      ∙ sym (digits_more (suc (suc k)) n (omega arith))
]

digits_few : (k n : ℕ) → length (digits_of k n) ≤ k
unfolding digits_of
digits_few zero n = omega arith
digits_few (suc k) n = elim (dec_lt n 10) [
  | yes l ↦ rw (lt-ltb n 10 l) (omega arith)
  | no l ↦ rw (le-ltb n 10 (omega arith), length-append) (omega (arith, digits_few k (n / 10)))
]

-- ---- decimals

-- a number below ten is one digit
pub decimal_one : (n : ℕ) → n < 10 → decimal n ≡ digit n ∷ []
unfolding decimal
decimal_one n h = digits_one 19 n h

-- any other is the digits of its tenth, and one more
pub decimal_more : (n : ℕ) → 10 ≤ n → n < 2 ^ 64 → decimal n ≡ decimal (n / 10) ++ (digit (n % 10) ∷ [])
unfolding decimal
decimal_more n h k =
    digits_more 19 n h
    ∙ ap (λ (l : List ℕ). l ++ (digit (n % 10) ∷ [])) (digits_enough 18 (n / 10) (omega arith))

-- at most twenty digits
pub decimal-few : (n : ℕ) → length (decimal n) ≤ most_digits
unfolding decimal
decimal-few n = digits_few most_digits n

-- ---- writing

-- one byte
pub written_byte : (s : List ℕ) (at a : ℕ) → set s at a ≡ written s at (a ∷ [])
written_byte s at a = sym (written_cons s [] at a ∙ written_none (set s at a) (suc at))
