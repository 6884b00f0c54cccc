-- What an argument asks for: the pages that it writes as a decimal number.
use Rattle.std.specs.Prelude.{ℕ, ◌≡◌, ◌≤◌, ◌+◌, ◌*◌, ◌<◌, List, Option, Some, None, IfSome}
use Rattle.std.specs.Char.{digit_value}
use Rattle.std.specs.Str.Parse.{IsNumeral, digits_value}
use Rattle.listing.specs.Pages.{most_pages}

-- a number with a digit behind it, up to the pages that a machine may have
abbrev pub Pushes : ℕ → ℕ → Option ℕ → Type 0
Pushes n byte (Some more) = (digit_value byte < 10) × (more ≡ n * 10 + digit_value byte) × (more ≤ most_pages)
Pushes n byte None = ¬ ((digit_value byte < 10) × (n * 10 + digit_value byte ≤ most_pages))

-- what a word asks for: it has a digit, and no others
abbrev pub AsksFor : List ℕ → Option ℕ → Type 0
AsksFor word (Some n) = IsNumeral 10 word × (digits_value 10 word ≡ n) × (n ≤ most_pages)
AsksFor word None = ¬ (IsNumeral 10 word × (digits_value 10 word ≤ most_pages))

-- no more pages than a machine may have
abbrev pub AreFew : Option ℕ → Type 0
AreFew asked = IfSome asked (λ n. n ≤ most_pages)
