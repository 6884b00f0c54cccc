-- The lines of a file's records: how long they are, and the turns of writing them.
use mathlib.Core.Path.{◌≡◌}
use mathlib.Core.List.{List, [], ◌∷◌}
use Prim.Native.Nat.{ℕ, ◌+◌, ◌*◌, ◌≤◌}
use native.Mathlib.Omega.{arith}
use lib.ListN.{length, length-append}
use Rattle.recordfile.specs.Form.{most_records}
use Rattle.recordfile.specs.declared.Record.{Record}
use Rattle.recordfile.specs.declared.Record.TheVariants.{State, Registers, Source, Dirty, Bad}
use Rattle.listing.specs.Decimals.{decimal}
use Rattle.listing.specs.Listing.{most_numbers, most_spaced, most_line, most_text, spaced, line, line_of, lines}
use Rattle.listing.specs.Texts.{Wrote}
use Rattle.listing.proofs.Digits.{decimal-few}
use Rattle.listing.proofs.Fixed.{joined, nothing_put}

-- ---- how long a line is

spaced-few : (ns : List ℕ) → length (spaced ns) ≤ length ns * most_spaced
unfolding spaced
spaced-few [] = omega arith
spaced-few (n ∷ ns) = rw (length-append (decimal n) (spaced ns)) (omega (arith, decimal-few n, spaced-few ns))

pub line-few : (letter : ℕ) (ns : List ℕ) → length ns ≤ most_numbers → length (line letter ns) ≤ most_line
unfolding line
line-few letter ns h = rw length-append (omega (arith, spaced-few ns))

pub record_few : (r : Record) → length (line_of r) ≤ most_line
unfolding line_of
record_few (State version pc cycles maximum reservation) = line-few _ _ (omega arith)
record_few (Registers first one two three four) = omega arith
record_few (Source address flag id offset size) = line-few _ _ (omega arith)
record_few (Dirty address flag pages place) = line-few _ _ (omega arith)
record_few Bad = omega arith

-- ---- the lines of the records that are left

module _ (rs : List Record) (out₀ : List ℕ) (at : ℕ) where
  -- after what is written, they make the whole
  pub record Going (out : List ℕ) (end : ℕ) (ts : List Record) : Type 0 where
    pub room : end + length ts * most_line ≤ at + length rs * most_line
    pub whole : (t : List ℕ) (e : ℕ) → Wrote out end (lines ts) t e → Wrote out₀ at (lines rs) t e

  module _ (out : List ℕ) (end : ℕ) (ts : List Record) (g : Going out end ts) where
    module _ (r : Record) (us : List Record) (q : ts ≡ r ∷ us) where
      next_room : end + length (r ∷ us) * most_line ≤ at + length rs * most_line
      next_room = rw q at g.room

      -- a turn: the next record's line
      pub going_next : (t : List ℕ) (e : ℕ) → Wrote out end (line_of r) t e → Going t e us
      unfolding lines
      going_next t e p =
          record {
            room = omega (arith, record_few r, next_room, p.ends);
            whole = λ u f w. g.whole u f (rw q (joined p w));
          }

      -- the next line has room
      pub going_fits : (n : ℕ) → length rs ≡ n → n ≤ most_records → at + most_text ≤ length out₀ → length out ≡ length out₀
          → end + most_line ≤ length out
      going_fits n l k h s = omega (arith, next_room)

    module _ (e : ts ≡ []) where
      -- the end
      pub going_done : Wrote out₀ at (lines rs) out end
      unfolding lines
      going_done = g.whole out end (rw e (nothing_put out end))

      pub going_room : (n : ℕ) → length rs ≡ n → n ≤ most_records → end ≤ at + most_text
      going_room n l k = omega (arith, g.room)
