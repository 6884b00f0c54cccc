-- A front that is a byte longer than the largest file tells as much as the whole: what is longer than the largest file is not in the form.
use Rattle.std.proofs.Common.{◌≡◌, ◌+◌, ◌*◌, ◌%◌, ◌<◌, ℕ, take, length, List, arith, ap, refl, ◌∙◌, inl, inr, subst, Option, None, Some, IfSome}
use Rattle.std.proofs.lemmas.List.{take_all, length-take-le}
use Rattle.std.proofs.lemmas.Bool.Decides.{leb_tells, eqb_tells}
use borrow.Author.Tests.{le-leb, lt-leb}
use Rattle.recordfile.specs.Words.{record_bytes}
use Rattle.recordfile.specs.Records.{count_in}
use Rattle.recordfile.specs.Form.{malformed, least_records, most_records, judged}
use Rattle.listing.specs.Listing.{listing}
use Rattle.listing.specs.Map.{map}

abbrev most_bytes : ℕ
most_bytes = most_records * record_bytes

too_long : (file : List ℕ) → most_bytes < length file → judged file ≡ malformed
unfolding judged
too_long file h = elim (eqb_tells (length file % record_bytes) 0) [
  | inl p ↦
      let many : most_records < count_in file = omega (arith, p.1, h) in
      rw (p.0, le-leb least_records (count_in file) (omega (arith, many)), lt-leb (count_in file) most_records many) refl
  | inr p ↦ rw p.0 refl
]

front_too_long : (input : List ℕ) → most_bytes < length input → judged (take (most_bytes + 1) input) ≡ malformed
front_too_long input h =
    let k : length (take (most_bytes + 1) input) ≡ most_bytes + 1 = length-take-le (most_bytes + 1) input h in
    too_long (take (most_bytes + 1) input) (omega (arith, k))

pub listing_front : (input : List ℕ) → listing (take (most_records * record_bytes + 1) input) ≡ listing input
unfolding listing
listing_front input = elim (leb_tells (length input) most_bytes) [
  | inl p ↦ ap listing (take_all (most_bytes + 1) input (omega (arith, p.1)))
  | inr p ↦ rw (front_too_long input p.1, too_long input p.1) refl
]

pub map_front : (pages : ℕ) (input : List ℕ) → map pages (take (most_records * record_bytes + 1) input) ≡ map pages input
unfolding map
map_front pages input = elim (leb_tells (length input) most_bytes) [
  | inl p ↦ ap (map pages) (take_all (most_bytes + 1) input (omega (arith, p.1)))
  | inr p ↦ rw (front_too_long input p.1, too_long input p.1) refl
]

-- what holds of the text of such a front holds of the input's
pub of_input : (f : List ℕ → List ℕ) (n : ℕ) (P : List ℕ → Type 0) (known : Option (List ℕ)) (file text : List ℕ)
    → ((input : List ℕ) → f (take n input) ≡ f input) → IfSome known (λ input. file ≡ take n input) → text ≡ f file → P text
    → IfSome known (λ input. P (f input))
of_input f n P None file text same read laid holds = tt
of_input f n P (Some input) file text same read laid holds = subst P (laid ∙ ap f read ∙ same input) holds
