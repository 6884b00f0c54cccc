-- Numbers as text: "prints decimals".
use Rattle.std.specs.Prelude.{cond, List, [], ◌∷◌, ◌++◌, ℕ, zero, suc, ◌+◌, ◌/◌, ◌%◌, ltb}

-- a digit's character: `0` is 48
abbrev pub digit : ℕ → ℕ
digit d = 48 + d

-- the digits of a number, the highest first and no 0 before it, where they are at most so many
unfoldable pub digits_of : ℕ → ℕ → List ℕ
digits_of zero n = []
digits_of (suc most) n = cond (ltb n 10) (digit n ∷ []) (digits_of most (n / 10) ++ (digit (n % 10) ∷ []))

-- a word of 64 bits has at most twenty digits
abbrev pub most_digits : ℕ
most_digits = 20

-- "decimals": the text of a number below 2^64
unfoldable pub decimal : ℕ → List ℕ
decimal n = digits_of most_digits n
