-- What is said of a comparison, and of a record file.
use Rattle.std.specs.Prelude.{ℕ, List, Bool, codes, ◌++◌, if◌then◌else◌}
use Rattle.listing.specs.Listing.{listing}

unfoldable pub said : Bool → List ℕ
said equal = if equal then codes "equal" else codes "NOT EQUAL"

-- the line of what was compared
unfoldable pub compared : List ℕ → Bool → List ℕ
compared what equal = codes "  " ++ what ++ codes ": " ++ said equal ++ codes "\n"

-- a record file's text under its title
unfoldable pub listed : List ℕ → List ℕ
listed file = codes "The record file, as snaplist lists it:\n" ++ listing file
