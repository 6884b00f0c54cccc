-- What a fill comes to on the view: zeros, the source and zeros stored, and every page that has some of them dirty.
use mathlib.Core.Path.{◌≡◌, sym, ap, ◌∙◌}
use mathlib.Core.List.{List, ◌++◌}
use mathlib.Core.Logic.{◌≢◌, ◌⊎◌}
use Prim.Native.Nat.{ℕ, ◌+◌, ◌-◌, ◌%◌, ◌≤◌, ◌<◌, min}
use native.Mathlib.Omega.{arith}
use lib.ListN.{length, get_or, take, length-append, length-take, get_or-append}
use lib.Seq.{get_or-append-add, get_or-take}
use lib.Bits.{bit_or, bit_and}
use Rattle.bits.specs.Rounding.{page_size}
use Rattle.words.specs.Bytes.{filled}
use Rattle.words.proofs.Filled.{length-filled, filled_zero}
use Rattle.program.specs.Program.{run}
use Rattle.memory.specs.Pages.{dirty}
use Rattle.memory.specs.Sparse as sparse
use Rattle.memory.specs.View as memory
use Rattle.memory.proofs.Dirty.{dirty-set}
use Rattle.handover.proofs.Effects.{Touched, Apart, Stored}
use Rattle.handover.proofs.Storing.{stores_then, store_stored}

-- "zeros, source, zeros": the source, and zeros to the end of `left` bytes; and the lead before them
abbrev pub rest_bytes : ℕ → List ℕ → List ℕ
rest_bytes left source = source ++ filled (left - length source) 0

abbrev pub fill_bytes : ℕ → ℕ → List ℕ → List ℕ
fill_bytes size lead source =
    filled (min size lead) 0 ++ rest_bytes (size - min size lead) (take (size - min size lead) source)

length_rest : (left : ℕ) (source : List ℕ) → length source ≤ left → length (rest_bytes left source) ≡ left
length_rest left source h = simp (length-append, length-filled) (omega arith)

pub length-fill : (size lead : ℕ) (source : List ℕ) → length (fill_bytes size lead source) ≡ size
length-fill size lead source =
    let n : ℕ = size - min size lead in
    let h : length (take n source) ≤ n = rw length-take (omega arith) in
    length-append (filled (min size lead) 0) (rest_bytes n (take n source))
    ∙ omega (arith, length-filled (min size lead) 0, length_rest n (take n source) h)

rest-stored : (v : memory.View) (a front left : ℕ) (source : List ℕ) → v.size % page_size ≡ 0 → length source ≤ left
    → a + front + left ≤ v.size
    → Stored v (a + front) (rest_bytes left source) (run memory.does_v (sparse.fill_rest a front left source) v)
unfolding sparse.fill_rest
rest-stored v a front left source whole few fits =
    let s = store_stored v (a + front) source whole (omega arith) in
    let w : memory.View = (run memory.does_v (sparse.store (a + front) source) v).1 in
    let z : w.size ≡ v.size = s.size in
    let l : List ℕ = filled (left - length source) 0 in
    stores_then v (a + front) source l (sparse.store (a + front) source) (sparse.store (a + front + length source) l) s
    (store_stored w (a + front + length source) l (rw z whole) (omega (arith, length-filled (left - length source) 0)))

pub fill-stored : (v : memory.View) (a size lead : ℕ) (source : List ℕ) → v.size % page_size ≡ 0 → a + size ≤ v.size
    → Stored v a (fill_bytes size lead source) (run memory.does_v (sparse.fill a size lead source) v)
unfolding sparse.fill
fill-stored v a size lead source whole fits =
    let front : ℕ = min size lead in
    let left : ℕ = size - front in
    let e : length (filled front 0) ≡ front = length-filled front 0 in
    let s = store_stored v a (filled front 0) whole (omega arith) in
    let w : memory.View = (run memory.does_v (sparse.store a (filled front 0)) v).1 in
    let z : w.size ≡ v.size = s.size in
    let h : length (take left source) ≤ left = rw length-take (omega arith) in
    stores_then v a (filled front 0) (rest_bytes left (take left source)) (sparse.store a (filled front 0))
    (sparse.fill_rest a front left (take left source))
    s
    (rw e (rest-stored w a front left (take left source) (rw z whole) h (omega arith)))

-- the same page by page, where the lead isn't longer than the whole
pub record Filled (v : memory.View) (a size lead : ℕ) (source : List ℕ) (r : ℕ × memory.View) : Type 0 where
  pub done : r.0 ≡ 0
  pub size_same : r.1.size ≡ v.size
  pub reservation : r.1.reservation ≡ v.reservation
  pub source_in : (i : ℕ) → i < min (length source) (size - lead) → r.1.byte (a + lead + i) ≡ get_or source i 0
  pub lead_in : (i : ℕ) → i < lead → r.1.byte (a + i) ≡ 0
  pub rest_in : (i : ℕ) → length source ≤ i → i < size - lead → r.1.byte (a + lead + i) ≡ 0
  pub byte_out : (x : ℕ) → (x < a) ⊎ (a + size ≤ x) → r.1.byte x ≡ v.byte x
  pub flag_inside : (q : ℕ) → Touched a size q → r.1.flag q ≡ bit_or (v.flag q) dirty
  pub flag_out : (q : ℕ) → Apart a size q → r.1.flag q ≡ v.flag q
  pub is_dirty : (q : ℕ) → Touched a size q → bit_and (r.1.flag q) dirty ≢ 0

module _ (size lead : ℕ) (source : List ℕ) (h : lead ≤ size) where
  front-is : min size lead ≡ lead
  front-is = omega arith

  abbrev cut : List ℕ
  cut = take (size - lead) source

  abbrev zeros : List ℕ
  zeros = filled (size - lead - length cut) 0

  fill_is : fill_bytes size lead source ≡ filled lead 0 ++ (cut ++ zeros)
  fill_is = rw front-is

  fill_lead : (i : ℕ) → i < lead → get_or (fill_bytes size lead source) i 0 ≡ 0
  fill_lead i k =
      rw fill_is (get_or-append (filled lead 0) (cut ++ zeros) 0 i (omega (arith, length-filled lead 0)) ∙ filled_zero lead i)

  fill-after : (i : ℕ) → get_or (fill_bytes size lead source) (lead + i) 0 ≡ get_or (cut ++ zeros) i 0
  fill-after i =
      let e : lead + i ≡ length (filled lead 0) + i = ap (λ (x : ℕ). x + i) (sym (length-filled lead 0)) in
      rw fill_is
      (ap (λ (j : ℕ). get_or (filled lead 0 ++ (cut ++ zeros)) j 0) e ∙ get_or-append-add (filled lead 0) (cut ++ zeros) i 0)

  fill-source : (i : ℕ) → i < min (length source) (size - lead) → get_or (fill_bytes size lead source) (lead + i) 0 ≡ get_or source i 0
  fill-source i k =
      fill-after i ∙ get_or-append cut zeros 0 i (rw length-take (omega arith)) ∙ get_or-take (size - lead) source i 0 (omega arith)

  fill-rest : (i : ℕ) → length source ≤ i → i < size - lead → get_or (fill_bytes size lead source) (lead + i) 0 ≡ 0
  fill-rest i k l =
      let e : length cut ≡ length source = length-take (size - lead) source ∙ omega arith in
      let f : i ≡ length cut + (i - length cut) = omega arith in
      fill-after i ∙ ap (λ (j : ℕ). get_or (cut ++ zeros) j 0) f ∙ get_or-append-add cut zeros (i - length cut) 0
      ∙ filled_zero (size - lead - length cut) (i - length cut)

pub fill-filled : (v : memory.View) (a size lead : ℕ) (source : List ℕ) → v.size % page_size ≡ 0 → a + size ≤ v.size → lead ≤ size
    → Filled v a size lead source (run memory.does_v (sparse.fill a size lead source) v)
fill-filled v a size lead source whole fits h =
    record {
      done = s.done;
      size_same = s.size;
      reservation = s.reservation;
      source_in = λ i k. ap r.1.byte (at i) ∙ s.byte_inside (lead + i) (omega (arith, n)) ∙ fill-source size lead source h i k;
      lead_in = λ i k. s.byte_inside i (omega (arith, n)) ∙ fill_lead size lead source h i k;
      rest_in = λ i k l. ap r.1.byte (at i) ∙ s.byte_inside (lead + i) (omega (arith, n)) ∙ fill-rest size lead source h i k l;
      byte_out = λ x k. s.byte_out x (rw n k);
      flag_inside = flags;
      flag_out = λ q t. s.flag_out q (rw n t);
      is_dirty = λ q t. rw (flags q t) (omega (arith, dirty-set (v.flag q)));
    }
  where
    r : ℕ × memory.View
    r = run memory.does_v (sparse.fill a size lead source) v

    s : Stored v a (fill_bytes size lead source) r
    s = fill-stored v a size lead source whole fits

    n : length (fill_bytes size lead source) ≡ size
    n = length-fill size lead source

    at : (i : ℕ) → a + lead + i ≡ a + (lead + i)
    at i = omega arith

    flags : (q : ℕ) → Touched a size q → r.1.flag q ≡ bit_or (v.flag q) dirty
    flags q t = s.flag_inside q (rw n t)
