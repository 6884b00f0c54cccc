-- Laws of the map: what stands around the tiles, the whole, and what `draw` answers.
use mathlib.Core.Path.{◌≡◌}
use mathlib.Core.List.{List, [], ◌∷◌}
use Prim.Native.Nat.{ℕ, ◌+◌, ◌≤◌, ◌<◌}
use native.Mathlib.Nat.{zero-add}
use lib.ListN.{length}
use borrow.Author.Tests.{le-leb, lt-leb}
use Rattle.words.specs.Bytes.{written}
use Rattle.words.proofs.Written.{written_none}
use Rattle.recordfile.specs.Records.{records_in}
use Rattle.recordfile.specs.Form.{judged, capped}
use Rattle.recordfile.specs.declared.Record.{Record}
use Rattle.std.specs.Prelude.{Option, Ok, Err}
use Rattle.outcome.specs.Numbers.{refusal_number}
use Rattle.outcome.specs.declared.Refusal.{Refusal}
use Rattle.listing.specs.Listing.{letter_e, line, output, laid}
use Rattle.listing.specs.Texts.{rows, filled, Wrote}
use Rattle.listing.specs.Pages.{most_pages, is_dirty, is_source, is_left_out, pages_that, runs_partly}
use Rattle.listing.specs.Map.{opened, numbers, closed, tiles, drawn, map, most_map, map_into}
use Rattle.listing.proofs.Fixed.{joined}
use Rattle.listing.proofs.Judged.{text-malformed, text-formed}

-- ---- around the tiles

module _ (s t : List ℕ) (at e pages : ℕ) where
  pub closed_put : (rs : List Record) (dirty source none runs : ℕ) → dirty ≡ pages_that is_dirty rs pages
      → source ≡ pages_that is_source rs pages
      → none ≡ pages_that is_left_out rs pages
      → runs ≡ runs_partly pages rs
      → Wrote s at (filled (rows numbers) (pages ∷ dirty ∷ source ∷ none ∷ runs ∷ [])) t e
      → Wrote s at (closed pages rs) t e
  unfolding closed
  closed_put rs dirty source none runs a b c d p = rw (a, b, c, d) at p

-- ---- the whole

pub drawn_put : (s t u v : List ℕ) (at e f g : ℕ) (rs : List Record) (pages : ℕ) → Wrote s at (opened pages) t e
    → Wrote t e (tiles rs 0 pages) u f
    → Wrote u f (closed pages rs) v g
    → Wrote s at (drawn pages rs) v g
unfolding drawn
drawn_put s t u v at e f g rs pages p q r = joined p (joined q r)

-- ---- what `draw` answers

module _ (pages : ℕ) (file s : List ℕ) where
  pub pages-past : most_pages < pages → output 9 0 s ≡ laid s (map_into pages file (length s))
  unfolding map_into
  pages-past h = simp (lt-leb pages most_pages h, written_none)

  module _ (few : pages ≤ most_pages) where
    pub room-short : length s < most_map → output 8 0 s ≡ laid s (map_into pages file (length s))
    unfolding map_into
    room-short h = simp (le-leb pages most_pages few, lt-leb most_map (length s) h, written_none)

    module _ (room : most_map ≤ length s) where
      pub map-into : map_into pages file (length s) ≡ (0, map pages file)
      unfolding map_into
      map-into = simp (le-leb pages most_pages few, le-leb most_map (length s) room)

      module _ (t : List ℕ) (end : ℕ) where
        -- only `E 11`
        pub map-malformed : (r : Refusal) → Err r ≡ capped (judged file) → t ≡ written s 0 (line letter_e (refusal_number r ∷ []))
            → end ≡ 0 + length (line letter_e (refusal_number r ∷ []))
            → output 0 end t ≡ laid s (map_into pages file (length s))
        unfolding map
        map-malformed r e w q = rw (map-into, text-malformed file r (drawn pages (records_in file)) e, w, q, zero-add)

        pub map-formed : (o : Option ℕ) → Ok o ≡ capped (judged file) → t ≡ written s 0 (drawn pages (records_in file))
            → end ≡ 0 + length (drawn pages (records_in file))
            → output 0 end t ≡ laid s (map_into pages file (length s))
        unfolding map
        map-formed o e w q = rw (map-into, text-formed file o e (drawn pages (records_in file)), w, q, zero-add)
