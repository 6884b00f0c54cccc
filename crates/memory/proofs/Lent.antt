-- A part of a list that was lent and came back written: the whole list is written there.
use Rattle.std.proofs.Common.{◌≡◌, ℕ, ◌+◌, ◌-◌, ◌*◌, ◌/◌, ◌<◌, ◌≤◌, List, ◌++◌, length, take, drop, sym, ◌∙◌, append_assoc, add-zero, arith, take-append-drop, take_all, take-take, drop-drop, take-add}
use lib.Seq.{drop-append-le}
use borrow.Rule.Slice.PartMut.{put_mid}
use Rattle.bits.specs.Rounding.{page_size}
use Rattle.words.specs.Bytes.{part, written, filled}
use Rattle.words.proofs.Patch.{length_part}
use Rattle.words.proofs.Written.{written-fits}
use Rattle.words.proofs.Filled.{length-filled}

-- the part from i to e came back as p
module _ (l p : List ℕ) (i e : ℕ) (ends : e ≤ length l) where
  -- it was written, from its index `at` on
  lent_written : (at : ℕ) (s : List ℕ) → i ≤ e → at + length s ≤ e - i
      → p ≡ written (part l i (e - i)) at s
      → put_mid i (e - i) l p ≡ written l (i + at) s
  lent_written at s b h w =
      let k : ℕ = e - i in
      let d : List ℕ = drop i l in
      let n : length (take k d) ≡ k = length_part l i k (omega arith) in
      let j : i + at + length s ≡ i + (at + length s) = omega arith in
      let back : drop (at + length s) (take k d) ++ drop k d ≡ drop (i + at + length s) l =
      sym (drop-append-le (at + length s) (take k d) (drop k d) (omega arith))
      ∙ rw (take-append-drop, j) (drop-drop (at + length s) i l) in
      rw (w, written-fits (take k d) s at (omega arith), written-fits l s (i + at) (omega arith), take-add i at l, take-take at k d (omega arith), ← back)
      (simp append_assoc)

  -- s was copied into it
  lent-copied : (s : List ℕ) → e ≡ i + length s → length s ≤ page_size
      → p ≡ written (part l i (e - i)) 0 (take page_size s)
      → put_mid i (e - i) l p ≡ written l i s
  lent-copied s k h w =
      lent_written 0 s (omega arith) (omega arith) (w ∙ rw (take_all page_size s h)) ∙ rw add-zero

  -- it was filled
  lent-filled : (n v : ℕ) → e ≡ i + n
      → p ≡ filled (length (part l i (e - i))) v
      → put_mid i (e - i) l p ≡ written l i (filled n v)
  lent-filled n v k w =
      let m : length (part l i (e - i)) ≡ n = length_part l i (e - i) (omega arith) ∙ omega arith in
      let f : length (filled n v) ≡ n = length-filled n v in
      let j : i + (e - i) ≡ i + length (filled n v) = omega arith in
      rw (w, m, drop-drop, j, written-fits l (filled n v) i (omega arith))

-- ---- a part of a page
module _ (page p : List ℕ) (at : ℕ) where
  pub page-copied : (s : List ℕ) → at + length s ≤ length page → length page ≤ page_size
      → p ≡ written (part page at (at + length s - at)) 0 (take page_size s)
      → put_mid at (at + length s - at) page p ≡ written page at s
  page-copied s h k w = lent-copied page p at (at + length s) h s (omega arith) (omega arith) w

  pub page-filled : (n v : ℕ) → at + n ≤ length page
      → p ≡ filled (length (part page at (at + n - at))) v
      → put_mid at (at + n - at) page p ≡ written page at (filled n v)
  page-filled n v h w = lent-filled page p at (at + n) h n v (omega arith) w

-- ---- a slot of the area
module _ (area p : List ℕ) (slot : ℕ) (h : slot < length area / page_size) where
  pub slot_cleared : p ≡ filled (length (part area (slot * page_size) (slot * page_size + page_size - slot * page_size))) 0
      → put_mid (slot * page_size) (slot * page_size + page_size - slot * page_size) area p ≡ written area (slot * page_size) (filled page_size 0)
  slot_cleared w = lent-filled area p (slot * page_size) (slot * page_size + page_size) (omega arith) page_size 0 (omega arith) w

  pub slot_written : (at : ℕ) (s : List ℕ) → at + length s ≤ page_size
      → p ≡ written (part area (slot * page_size) (slot * page_size + page_size - slot * page_size)) at s
      → put_mid (slot * page_size) (slot * page_size + page_size - slot * page_size) area p ≡ written area (slot * page_size + at) s
  slot_written at s k w =
      lent_written area p (slot * page_size) (slot * page_size + page_size) (omega arith) at s (omega arith) (omega arith) w
