-- Laws of tiles: a source's, and the turns of drawing them.
use mathlib.Core.Path.{◌≡◌}
use mathlib.Core.List.{List, [], ◌∷◌}
use Prim.Native.Nat.{ℕ, suc, ◌+◌, ◌-◌, ◌*◌, ◌/◌, ◌%◌, ◌^◌, ◌≤◌, ◌<◌}
use native.Mathlib.Omega.{arith}
use borrow.Author.Tests.{lt-ltb, le-ltb}
use Rattle.std.specs.Prelude.{SomeIff, Some}
use Rattle.bits.specs.Rounding.{page_size}
use Rattle.recordfile.specs.declared.Record.{Record}
use Rattle.listing.specs.Texts.{text, filled, Wrote}
use Rattle.listing.specs.Pages.{said_of}
use Rattle.listing.specs.Map.{row_tiles, shades, source_tile, tile, tiles, most_tile}
use Rattle.listing.specs.declared.pages.Said.{Said}
use Rattle.listing.specs.declared.pages.Said.TheVariants.{Source}
use Rattle.listing.proofs.Fixed.{joined, nothing_put}

-- ---- a tile of a source, from an offset and so many bytes more

module _ (s t : List ℕ) (at e n flag id address offset f more : ℕ) where
  pub from_put : (from : ℕ)
      → Wrote s at
      (filled (text "<rect width='.9' height='.9' x='@' y='@' class='source@'><title>page @ at @: source @ from @, flag @</title></rect>\n")
      (n % row_tiles ∷ n / row_tiles ∷ f % shades ∷ n ∷ n * page_size ∷ id ∷ from ∷ f ∷ [])) t e
      → SomeIff (Some from) (offset + more < 2 ^ 64) (offset + more)
      → f ≡ flag
      → more ≡ n * page_size - address
      → Wrote s at (tile n (Source flag id address offset)) t e
  unfolding tile source_tile
  from_put from p k q m = rw (← m, ← q, lt-ltb (offset + more) (2 ^ 64) k.0, ← k.1) p

  pub past_put : Wrote s at
      (filled (text "<rect width='.9' height='.9' x='@' y='@' class='source@'><title>page @ at @: source @, flag @</title></rect>\n")
      (n % row_tiles ∷ n / row_tiles ∷ f % shades ∷ n ∷ n * page_size ∷ id ∷ f ∷ [])) t e
      → (offset + more < 2 ^ 64 → ⊥)
      → f ≡ flag
      → more ≡ n * page_size - address
      → Wrote s at (tile n (Source flag id address offset)) t e
  unfolding tile source_tile
  past_put p h q m = rw (← m, ← q, le-ltb (offset + more) (2 ^ 64) (omega arith)) p

-- ---- the tiles from page n on

module _ (rs : List Record) (out₀ : List ℕ) (at pages : ℕ) where
  -- after those drawn, they make the whole
  pub record Drawing (out : List ℕ) (end n : ℕ) : Type 0 where
    pub within : n ≤ pages
    pub room : end ≤ at + n * most_tile
    pub whole : (t : List ℕ) (e : ℕ) → Wrote out end (tiles rs n (pages - n)) t e → Wrote out₀ at (tiles rs 0 pages) t e

  module _ (out : List ℕ) (end n : ℕ) (g : Drawing out end n) where
    -- a turn: the next page's tile
    pub drawing_next : (said : Said) (t : List ℕ) (e : ℕ) → n < pages → said ≡ said_of rs n → Wrote out end (tile n said) t e
        → e ≤ end + most_tile
        → Drawing t e (n + 1)
    unfolding tiles
    drawing_next said t e h k p r =
        let m : pages - n ≡ suc (pages - (n + 1)) = omega arith in
        record {
          within = omega arith;
          room = omega (arith, g.room);
          whole = λ u f q. g.whole u f (rw m (joined (rw k at p) q));
        }

    -- the end
    pub drawing_done : pages ≤ n → Wrote out₀ at (tiles rs 0 pages) out end
    unfolding tiles
    drawing_done h =
        let m : pages - n ≡ 0 = omega arith in
        g.whole out end (rw m (nothing_put out end))
