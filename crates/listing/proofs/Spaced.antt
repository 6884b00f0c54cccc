-- A line, number by number.
use mathlib.Core.Path.{◌≡◌, refl}
use mathlib.Core.List.{List, [], ◌∷◌, ◌++◌, append_assoc}
use Prim.Native.Nat.{ℕ, suc, ◌+◌, ◌*◌, ◌≤◌, ◌<◌}
use native.Mathlib.Numerals.{add-one}
use native.Mathlib.Omega.{arith}
use lib.ListN.{length, drop, get_or, drop_of_length-le}
use lib.Seq.{drop-cons}
use Rattle.listing.specs.Decimals.{decimal}
use Rattle.listing.specs.Listing.{most_spaced, space, newline, spaced, line}
use Rattle.listing.specs.Texts.{Wrote}
use Rattle.listing.proofs.Digits.{decimal-few}
use Rattle.listing.proofs.Fixed.{joined}

module _ (out₀ : List ℕ) (at letter : ℕ) (numbers : List ℕ) where
  -- the numbers from i on and the line's end, after what is written, make the whole
  pub record Spacing (out : List ℕ) (end i : ℕ) : Type 0 where
    pub within : i ≤ length numbers
    pub room : end ≤ at + 1 + i * most_spaced
    pub whole : (t : List ℕ) (e : ℕ) → Wrote out end (spaced (drop i numbers) ++ (newline ∷ [])) t e → Wrote out₀ at (line letter numbers) t e

  pub spacing_all : (t : List ℕ) (e : ℕ) → Wrote out₀ at (letter ∷ []) t e → Spacing t e 0
  unfolding line
  spacing_all t e p =
      record { within = omega arith; room = omega (arith, p.ends); whole = λ u f q. joined p q }

  module _ (out : List ℕ) (end i : ℕ) (g : Spacing out end i) where
    -- a turn: the next number after a space
    pub spacing_next : (s t : List ℕ) (f e : ℕ) → i < length numbers → Wrote out end (space ∷ []) s f
        → Wrote s f (decimal (get_or numbers i 0)) t e
        → Spacing t e (i + 1)
    unfolding spaced
    spacing_next s t f e h p q =
        let n : ℕ = get_or numbers i 0 in
        let rest : List ℕ = drop (suc i) numbers in
        let d : drop i numbers ≡ n ∷ rest = drop-cons numbers i 0 h in
        let z : spaced (drop i numbers) ++ (newline ∷ []) ≡ space ∷ (decimal n ++ (spaced rest ++ (newline ∷ []))) = rw (d, append_assoc) refl in
        record {
          within = omega arith;
          room = omega (arith, g.room, decimal-few n, p.ends, q.ends);
          whole = λ u b r. g.whole u b (rw z (joined p (joined q (rw (add-one i) at r))));
        }

    module _ (h : length numbers ≤ i) where
      -- the line's end
      pub spacing_done : (t : List ℕ) (e : ℕ) → Wrote out end (newline ∷ []) t e → Wrote out₀ at (line letter numbers) t e
      unfolding spaced
      spacing_done t e p = g.whole t e (rw (drop_of_length-le numbers {i = i} h) p)
