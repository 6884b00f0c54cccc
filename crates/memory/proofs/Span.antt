-- The byte at an address in its cases, the bytes of a part of one page, and an output that is filled page by page.
use Rattle.std.proofs.Common.{◌≡◌, ℕ, zero, suc, ◌+◌, ◌-◌, ◌*◌, ◌/◌, ◌%◌, ◌<◌, ◌≤◌, min, List, [], ◌∷◌, ◌++◌, length, get_or, take, drop, sym, refl, ap, ◌∙◌, append-nil, add-zero, arith, drop_of_length-le, get_or-drop, take_all, get_or-take, drop-drop, ne_eqb}
use lib.ListN.{get_or-eq_default}
use Rattle.bits.specs.Rounding.{page_size}
use Rattle.words.specs.Bytes.{part, patch, written, filled}
use Rattle.words.proofs.Filled.{length-filled, filled_at}
use Rattle.words.proofs.Patch.{length_part}
use Rattle.words.proofs.Written.{length-written, written-fits, written_next, written_none}
use Rattle.memory.specs.Storage.{absent, slot_in, byte_in, span}

-- ---- the byte at an address
module _ (slots area : List ℕ) (a s : ℕ) (is : s ≡ slot_in slots (a / page_size)) where
  pub byte-absent : s ≡ absent → 0 ≡ byte_in slots area a
  unfolding byte_in
  byte-absent e = rw (← is, e)

  module _ (n : s ≡ absent → ⊥) where
    pub byte-there : get_or area (s * page_size + a % page_size) 0 ≡ byte_in slots area a
    unfolding byte_in
    byte-there = rw (← is, ne_eqb s absent n)

    pub byte_past : length area ≤ s * page_size + a % page_size → 0 ≡ byte_in slots area a
    byte_past h = sym (get_or-eq_default {A = ℕ} area 0 h) ∙ byte-there

-- ---- bytes in turn
module _ (byte : ℕ → ℕ) where
  pub length-span : (n a : ℕ) → length (span byte a n) ≡ n
  unfolding span
  length-span zero a = refl
  length-span (suc n) a = ap suc (length-span n (a + 1))

  pub span_add : (m n a : ℕ) → span byte a m ++ span byte (a + m) n ≡ span byte a (m + n)
  unfolding span
  span_add zero n a = let w : 0 + n ≡ n = omega arith in rw (w, add-zero)
  span_add (suc m) n a =
      let z : a + suc m ≡ a + 1 + m = omega arith in
      let w : suc m + n ≡ suc (m + n) = omega arith in
      rw (z, w) (ap (λ (t : List ℕ). byte a ∷ t) (span_add m n (a + 1)))

  -- a list that has the byte of every address is the span
  pub span-is : (l : List ℕ) (a : ℕ) → ((i : ℕ) → i < length l → get_or l i 0 ≡ byte (a + i)) → l ≡ span byte a (length l)
  unfolding span
  span-is [] a h = refl
  span-is (x ∷ l) a h =
      let e : x ≡ byte a = rw add-zero at (h 0 (omega arith)) in
      let k : l ≡ span byte (a + 1) (length l) =
      span-is l (a + 1) (λ i j. let z : a + 1 + i ≡ a + suc i = omega arith in rw z (h (suc i) (omega arith))) in
      rw (← e) (ap (λ (t : List ℕ). x ∷ t) k)

-- ---- n bytes of one page, from index at on
module _ (slots area : List ℕ) (page at s n : ℕ) (is : s ≡ slot_in slots page) (h : at + n ≤ page_size) where
  -- a list of as many bytes that is right at every index
  part-is : (l : List ℕ) → length l ≡ n → ((i : ℕ) → i < n → get_or l i 0 ≡ byte_in slots area (page * page_size + (at + i)))
      → l ≡ span (byte_in slots area) (page * page_size + at) n
  part-is l e f =
      rw (← e)
      (span-is (byte_in slots area) l (page * page_size + at)
      (λ i k. let z : page * page_size + at + i ≡ page * page_size + (at + i) = omega arith in rw z (f i (omega arith))))

  -- the slot of an address on the page
  slot_is : (i : ℕ) → i < n → s ≡ slot_in slots ((page * page_size + (at + i)) / page_size)
  slot_is i k = let z : (page * page_size + (at + i)) / page_size ≡ page = omega arith in rw z is

  pub part-absent : (t : List ℕ) → t ≡ filled n 0 → s ≡ absent → t ≡ span (byte_in slots area) (page * page_size + at) n
  part-absent t e z =
      e ∙ part-is (filled n 0) (length-filled n 0)
      (λ i k. filled_at n 0 i k ∙ byte-absent slots area (page * page_size + (at + i)) s (slot_is i k) z)

  module _ (there : s ≡ absent → ⊥) where
    pub part-past : (t : List ℕ) → t ≡ filled n 0 → length area ≤ s * page_size + at
        → t ≡ span (byte_in slots area) (page * page_size + at) n
    part-past t e l =
        e ∙ part-is (filled n 0) (length-filled n 0)
        (λ i k. filled_at n 0 i k ∙ byte_past slots area (page * page_size + (at + i)) s (slot_is i k) there (omega arith))

    pub part-there : s * page_size + at + n ≤ length area
        → part area (s * page_size + at) n ≡ span (byte_in slots area) (page * page_size + at) n
    part-there l =
        part-is (part area (s * page_size + at) n) (length_part area (s * page_size + at) n l)
        (λ i k.
        let z : s * page_size + at + i ≡ s * page_size + (page * page_size + (at + i)) % page_size = omega arith in
        get_or-take n (drop (s * page_size + at) area) i 0 k ∙ get_or-drop (s * page_size + at) area i 0
        ∙ ap (λ (j : ℕ). get_or area j 0) z ∙ byte-there slots area (page * page_size + (at + i)) s (slot_is i k) there)

-- as many bytes as a list has take its place
written-whole : (s l : List ℕ) → length l ≡ length s → written s 0 l ≡ l
written-whole s l e =
    let d : drop (0 + length l) s ≡ [] = (let y : length s ≤ 0 + length l = omega arith in drop_of_length-le s y) in
    written-fits s l 0 (omega arith) ∙ rw (d, append-nil)

-- an area of whole pages has a slot's bytes, or none of them
pub part-copied : (slots area out t : List ℕ) (page at s end : ℕ) → s ≡ slot_in slots page → at + length out ≤ page_size
    → (s ≡ absent → ⊥) → length area % page_size ≡ 0 → s * page_size + at < length area → end ≡ s * page_size + at + length out
    → t ≡ written out 0 (take page_size (part area (s * page_size + at) (end - (s * page_size + at))))
    → t ≡ span (byte_in slots area) (page * page_size + at) (length out)
part-copied slots area out t page at s end is h there w l e q =
    let f : end - (s * page_size + at) ≡ length out = omega arith in
    let y : s * page_size + at + length out ≤ length area = omega arith in
    let v : List ℕ = part area (s * page_size + at) (length out) in
    let n : length v ≡ length out = length_part area (s * page_size + at) (length out) y in
    let r : t ≡ written out 0 (take page_size v) = rw f at q in
    r ∙ rw (take_all page_size v (omega arith)) (written-whole out v n) ∙ part-there slots area page at s (length out) is h there y

-- ---- an output of which the first i bytes are filled
pub record Filling (slots area : List ℕ) (a n : ℕ) (out₀ out : List ℕ) (i : ℕ) : Type 0 where
  pub in_n : i ≤ n
  pub kept : length out ≡ length out₀
  pub is : out ≡ written out₀ 0 (span (byte_in slots area) a i)

pub filling_none : (slots area : List ℕ) (a n : ℕ) (out : List ℕ) → Filling slots area a n out out 0
unfolding span
filling_none slots area a n out = record { in_n = omega arith; kept = refl; is = sym (written_none out 0) }

module _ {slots area : List ℕ} {a n : ℕ} {out₀ out : List ℕ} {i : ℕ} (g : Filling slots area a n out₀ out i) where
  -- a turn: k bytes of one page, in the part of the output that was lent for them
  pub filling_more : n ≤ length out₀ → i < n → (k : ℕ) → k ≡ min (page_size - (a + i) % page_size) (n - i) → (p : List ℕ)
      → p ≡ span (byte_in slots area) ((a + i) / page_size * page_size + (a + i) % page_size) (length (part out i (i + k - i)))
      → Filling slots area a n out₀ (take i out ++ (p ++ drop (i + k - i) (drop i out))) (i + k)
  filling_more hn hi k hk p q =
      let l = g.kept in
      let x : (a + i) / page_size * page_size + (a + i) % page_size ≡ a + i = omega arith in
      let y : i + k - i ≡ k = omega arith in
      let z : length (part out i k) ≡ k = length_part out i k (omega arith) in
      let b : p ≡ span (byte_in slots area) (a + i) k = rw (x, y, z) at q in
      let c : length p ≡ k = ap length b ∙ length-span (byte_in slots area) k (a + i) in
      let f : length (span (byte_in slots area) a i) ≡ i = length-span (byte_in slots area) i a in
      let j : 0 + length (span (byte_in slots area) a i) ≡ i = omega arith in
      let w : patch out i p ≡ written out i p = sym (written-fits out p i (omega arith)) in
      let e : take i out ++ (p ++ drop (i + k - i) (drop i out)) ≡ written out i p = rw (y, drop-drop k i out) (rw c at w) in
      record {
        in_n = omega arith;
        kept = ap length e ∙ length-written out p i ∙ l;
        is =
            e ∙ ap (λ (t : List ℕ). written t i p) g.is
            ∙ ap (λ (x : ℕ). written (written out₀ 0 (span (byte_in slots area) a i)) x p) (sym j)
            ∙ written_next out₀ (span (byte_in slots area) a i) p 0 ∙ rw (b, span_add (byte_in slots area) i k a);
      }
