-- A word, read digit by digit.
use Rattle.std.proofs.Common.{◌≡◌, ◌≤◌, ◌<◌, ◌+◌, ◌*◌, ℕ, suc, List, [], ◌∷◌, length, drop, get_or, drop-cons, Option, Some, None, arith, refl}
use Rattle.std.specs.Char.{digit_value}
use Rattle.std.specs.Str.Parse.{AllDigits, digits_value_after, digits_value}
use native.Mathlib.Numerals.{add-one}
use Rattle.listing.specs.Pages.{most_pages}
use Rattle.snapmap.specs.Numerals.{Pushes, AsksFor, AreFew}

-- ---- digits on a number so far

-- they come to so many pages, few enough
abbrev pub Few : ℕ → List ℕ → ℕ → Type 0
Few n word m = AllDigits 10 word × (digits_value_after 10 n word ≡ m) × (m ≤ most_pages)

more_digits : (n : ℕ) (word : List ℕ) → n ≤ digits_value_after 10 n word
more_digits n [] = omega arith
more_digits n (c ∷ cs) = omega (arith, more_digits (n * 10 + digit_value c) cs)

-- the digits from i on, on the number so far, come to what the word does
pub record Reading (word : List ℕ) (n i : ℕ) : Type 0 where
  pub few : n ≤ most_pages
  pub same : (m : ℕ) → Few 0 word m → Few n (drop i word) m
  pub back : (m : ℕ) → Few n (drop i word) m → Few 0 word m

module _ (word : List ℕ) where
  module _ (n i : ℕ) (r : Reading word n i) where
    module _ (h : i < length word) where
      next : drop i word ≡ get_or word i 0 ∷ drop (suc i) word
      next = drop-cons word i 0 h

      -- a turn: one digit more
      pub reading_next : (more : ℕ) → Pushes n (get_or word i 0) (Some more) → Reading word more (i + 1)
      reading_next more p =
          record {
            few = p.2;
            same = λ m f. let k : Few n (get_or word i 0 ∷ drop (suc i) word) m = rw next at (r.same m f) in rw (add-one, p.1) (k.0.1, k.1, k.2);
            back = λ m f. r.back m (let k : Few (n * 10 + digit_value (get_or word i 0)) (drop (suc i) word) m = rw (add-one, p.1) at f in rw next ((p.0, k.0), k.1, k.2));
          }

      -- no digit, or too many pages
      pub reading_stops : Pushes n (get_or word i 0) None → AsksFor word None
      reading_stops p = λ asks.
          let k : Few n (get_or word i 0 ∷ drop (suc i) word) (digits_value 10 word) = rw next at (r.same (digits_value 10 word) (asks.0.1, refl, asks.1)) in
          p (k.0.0, omega (arith, k.1, k.2, more_digits (n * 10 + digit_value (get_or word i 0)) (drop (suc i) word)))

pub few_asked : (word : List ℕ) (asked : Option ℕ) → AsksFor word asked → AreFew asked
few_asked word (Some n) asks = asks.2
few_asked word None asks = tt
