-- Parts of a list of bytes, and a list with bytes stored in it.
use Rattle.std.specs.Prelude.{ℕ, ◌+◌, ◌-◌, List, ◌++◌, length, take, drop, replicate}

-- the n bytes of s from at on, or as many of them as there are
abbrev pub part : List ℕ → ℕ → ℕ → List ℕ
part s at n = take n (drop at s)

-- s with l in the place of as many bytes from at on
abbrev pub patch : List ℕ → ℕ → List ℕ → List ℕ
patch s at l = take at s ++ (l ++ drop (at + length l) s)

-- s with the bytes of l stored from at on; those that find no room are dropped
unfoldable pub written : List ℕ → ℕ → List ℕ → List ℕ
written s at l = patch s at (take (length s - at) l)

-- n bytes of value v
unfoldable pub filled : ℕ → ℕ → List ℕ
filled n v = replicate n v
