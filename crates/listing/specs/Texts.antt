-- Forms: fixed texts with gaps for numbers.
use Rattle.std.specs.Prelude.{◌≡◌, cond, List, [], ◌∷◌, ◌++◌, ℕ, ◌+◌, ◌*◌, eqb, length}
use Prim.Native.Char.{code}
use Prim.Native.String.{String, [] as ε, ◌∷◌ as ◌then◌}
use Rattle.words.specs.Bytes.{written}
use Rattle.listing.specs.Decimals.{most_digits, decimal}
use Rattle.listing.specs.Listing.{newline}

-- the bytes of a text in ASCII: each character's number
unfoldable pub text : String → List ℕ
text ε = []
text (c then s) = code c ∷ text s

-- lines, each with its end
unfoldable pub rows : List String → List ℕ
rows [] = []
rows (s ∷ ss) = text s ++ (newline ∷ rows ss)

-- a gap: `@`
abbrev pub gap : ℕ
gap = 64

-- a form with its numbers: each gap is the next of them, while there is one
unfoldable pub standing : ℕ → List ℕ → List ℕ
standing c [] = c ∷ []
standing c (n ∷ ns) = cond (eqb c gap) (decimal n) (c ∷ [])

unfoldable pub remaining : ℕ → List ℕ → List ℕ
remaining c [] = []
remaining c (n ∷ ns) = cond (eqb c gap) ns (n ∷ ns)

unfoldable pub filled : List ℕ → List ℕ → List ℕ
filled [] ns = []
filled (c ∷ cs) ns = standing c ns ++ filled cs (remaining c ns)

-- the most numbers of a form, and the room for them: that of one more
abbrev pub most_gaps : ℕ
most_gaps = 8

abbrev pub gaps_room : ℕ
gaps_room = (most_gaps + 1) * most_digits

-- bytes were written into an output from at on, and end there
pub record Wrote (out : List ℕ) (at : ℕ) (bytes out' : List ℕ) (end : ℕ) : Type 0 where
  pub holds : out' ≡ written out at bytes
  pub ends : end ≡ at + length bytes
