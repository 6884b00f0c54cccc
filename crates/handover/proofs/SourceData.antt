-- What an item of the sources gives for several pages: one entry decides for every offset and length, so a longer part of an item
-- is the parts that its pages are given, one after another.
use mathlib.Core.Path.{◌≡◌, refl, sym, ap, ◌∙◌}
use mathlib.Core.Bool.{Bool, true, false, cond}
use mathlib.Core.List.{List, [], ◌∷◌}
use mathlib.Core.Logic.{◌≢◌, ◌⊎◌, inl, inr}
use Prim.Native.Nat.{ℕ, zero, suc, ◌+◌, ◌-◌, ◌*◌, ◌/◌, ◌≤◌, ◌<◌, min}
use native.Mathlib.Nat.{zero-mul, suc-mul}
use native.Mathlib.Omega.{arith}
use native.Mathlib.Decide.{ℕ_discrete, dec_le}
use lib.Dec.{eqb}
use lib.ListN.{length, get_or, take, drop}
use lib.Seq.{take-take, take-add, drop-drop}
use Rattle.bits.specs.Rounding.{page_size}
use Rattle.words.specs.Bytes.{part}
use Rattle.words.proofs.Patch.{length_part}
use Rattle.memory.specs.Storage.{span}
use Rattle.memory.proofs.Span.{length-span, span_add}
use Rattle.tracking.specs.Sources.{entry_words, Data, found, missing, data_in, among, find_data, data_of}
use Rattle.tracking.proofs.Lookup.{outside, entry-short, entry_found, lookup_inside}
use Rattle.handover.specs.Sound.{source_gives}

-- ---- parts of a list

-- a part of a part
part-part : (s : List ℕ) (at n k m : ℕ) → k + m ≤ n → part (part s at n) k m ≡ part s (at + k) m
part-part s at n k m h = go k n (drop at s) h ∙ ap (take m) (drop-drop k at s)
  where
    go : (k n : ℕ) (l : List ℕ) → k + m ≤ n → take m (drop k (take n l)) ≡ take m (drop k l)
    go zero n l h = take-take m n l (omega arith)
    go (suc k) zero l h = absurd (omega arith)
    go (suc k) (suc n) [] h = refl
    go (suc k) (suc n) (x ∷ l) h = go k n l (omega arith)

-- n parts of w bytes, one after another
parts-span : (byte : ℕ → ℕ) (s : List ℕ) (w at a n : ℕ)
    → ((k : ℕ) → k < n → part s (at + k * w) w ≡ span byte (a + k * w) w) → part s at (n * w) ≡ span byte a (n * w)
unfolding span
parts-span byte s w at a zero h = rw zero-mul
parts-span byte s w at a (suc n) h =
    let front : part s at (n * w) ≡ span byte a (n * w) = parts-span byte s w at a n (λ k i. h k (omega arith)) in
    rw (suc-mul n w, take-add (n * w) w (drop at s), drop-drop (n * w) at s, front, h n (omega arith))
    (span_add byte (n * w) w a)

-- ---- the entry that decides

-- where the lookups of an id find an item: its bytes, all among those that are lent
record Item (room : ℕ) (look : ℕ → ℕ → Data) : Type 0 where
  start : ℕ
  size : ℕ
  inside : start + size ≤ room
  gives : (offset wanted : ℕ) → offset ≤ size
      → look offset wanted ≡ found (start + offset) (min wanted (size - offset)) (size - offset)
  past : (offset wanted : ℕ) → size < offset → look offset wanted ≡ missing

-- an item for every offset and length, or none for any
abbrev Decided : ℕ → (ℕ → ℕ → Data) → Type 0
Decided room look = Item room look ⊎ ((offset wanted : ℕ) → look offset wanted ≡ missing)

entry_decides : (room start size : ℕ) → Decided room (data_in room start size)
entry_decides room start size = elim (dec_le (start + size) room) [
  | yes h ↦
      inl (record {
        start = start;
        size = size;
        inside = h;
        gives = λ offset wanted o. sym (entry_found room start size offset wanted h _ _ o refl refl);
        past = λ offset wanted o. sym (entry-short room start size offset wanted h o);
      })
  | no h ↦ inr (λ offset wanted. sym (outside room start size offset wanted (omega arith)))
]

cond_decides : (room : ℕ) (b : Bool) (f g : ℕ → ℕ → Data) → Decided room f → Decided room g
    → Decided room (λ offset wanted. cond b (f offset wanted) (g offset wanted))
cond_decides room true f g d e = d
cond_decides room false f g d e = e

among_decides : (directory : List ℕ) (room id n i : ℕ)
    → Decided room (λ offset wanted. among directory room id offset wanted n i)
unfolding among
among_decides directory room id zero i = inr (λ offset wanted. refl)
among_decides directory room id (suc n) i =
    cond_decides room (eqb (get_or directory (i * entry_words) 0) id) _ _ (entry_decides room _ _)
    (among_decides directory room id n (i + 1))

find_decides : (directory : List ℕ) (room id : ℕ) → Decided room (find_data directory room id)
unfolding find_data
find_decides directory room id = among_decides directory room id (length directory / entry_words) 0

-- ---- what is given

module _ (directory sources : List ℕ) (id : ℕ) where
  abbrev look : ℕ → ℕ → Data
  look = find_data directory (length sources) id

  -- the item, where the offset is not above its length
  abbrev Finds : ℕ → Type 0
  Finds offset = (i : Item (length sources) look) × (offset ≤ i.size)

  pub data_length : (offset wanted : ℕ) → length (data_of sources (look offset wanted)) ≡ (look offset wanted).count
  data_length offset wanted = length_part sources _ _ (lookup_inside directory (length sources) id offset wanted).ends_in

  -- a lookup finds the item, or answers 6
  found-item : (offset wanted : ℕ) → Finds offset ⊎ (look offset wanted ≡ missing)
  found-item offset wanted = go (find_decides directory (length sources) id)
    where
      go : Decided (length sources) look → Finds offset ⊎ (look offset wanted ≡ missing)
      go (inl i) = elim (dec_le offset i.size) [ yes h ↦ inl (i, h) | no h ↦ inr (i.past offset wanted (omega arith)) ]
      go (inr m) = inr (m offset wanted)

  -- a refused lookup gives no data
  pub data_none : (offset wanted : ℕ) → (look offset wanted).number ≢ 0 → data_of sources (look offset wanted) ≡ []
  data_none offset wanted n = go (found-item offset wanted)
    where
      go : Finds offset ⊎ (look offset wanted ≡ missing) → data_of sources (look offset wanted) ≡ []
      go (inl (i, h)) = absurd (n (ap (λ (d : Data). d.number) (i.gives offset wanted h)))
      go (inr m) = ap (data_of sources) m

  -- a lookup that answers 0, or that gives some data, finds the item
  done-item : (offset wanted : ℕ) → (look offset wanted).number ≡ 0 → Finds offset
  done-item offset wanted n = go (found-item offset wanted)
    where
      go : Finds offset ⊎ (look offset wanted ≡ missing) → Finds offset
      go (inl f) = f
      go (inr m) = let z : ◌≡◌ {A = ℕ} 6 0 = sym (ap (λ (d : Data). d.number) m) ∙ n in absurd (omega arith)

  some-done : (offset wanted : ℕ) → 0 < length (data_of sources (look offset wanted)) → (look offset wanted).number ≡ 0
  some-done offset wanted h = elim (ℕ_discrete (look offset wanted).number 0) [
    | yes e ↦ e
    | no n ↦
        let z : length (data_of sources (look offset wanted)) ≡ 0 = ap length (data_none offset wanted n) in
        absurd (omega arith)
  ]

  module _ (i : Item (length sources) look) where
    item_count : (offset wanted : ℕ) → offset + wanted ≤ i.size
        → look offset wanted ≡ found (i.start + offset) wanted (i.size - offset)
    item_count offset wanted h =
        let z : min wanted (i.size - offset) ≡ wanted = omega arith in
        i.gives offset wanted (omega arith) ∙ rw z

    -- as many bytes as are wanted lie in the item
    item-holds : (offset wanted : ℕ) → 0 < wanted → length (data_of sources (look offset wanted)) ≡ wanted
        → offset + wanted ≤ i.size
    item-holds offset wanted some e = elim (dec_le offset i.size) [
      | yes h ↦
          let z : (look offset wanted).count ≡ min wanted (i.size - offset) =
          ap (λ (d : Data). d.count) (i.gives offset wanted h) in
          let y = data_length offset wanted in
          omega arith
      | no h ↦
          let z : length (data_of sources (look offset wanted)) ≡ 0 =
          ap (λ (d : Data). length (data_of sources d)) (i.past offset wanted (omega arith)) in
          absurd (omega arith)
    ]

-- ---- pages

-- n pages that an item gives one by one, it gives at once
pub run_data : (directory sources : List ℕ) (byte : ℕ → ℕ) (id offset a n : ℕ) → 0 < n
    → ((k : ℕ) → k < n → source_gives directory sources id (offset + k * page_size) ≡ span byte (a + k * page_size) page_size)
    → ((find_data directory (length sources) id offset (n * page_size)).number ≡ 0)
    × (data_of sources (find_data directory (length sources) id offset (n * page_size)) ≡ span byte a (n * page_size))
run_data directory sources byte id offset a n some h =
    let long : (k : ℕ) → k < n → length (source_gives directory sources id (offset + k * page_size)) ≡ page_size = λ k b.
    ap length (h k b) ∙ length-span byte page_size (a + k * page_size) in
    let first : length (source_gives directory sources id (offset + 0 * page_size)) ≡ page_size = long 0 some in
    let i : Item (length sources) (find_data directory (length sources) id) =
    (done-item directory sources id (offset + 0 * page_size) page_size
    (some-done directory sources id (offset + 0 * page_size) page_size (omega arith))).0 in
    let held : (k : ℕ) → k < n → offset + k * page_size + page_size ≤ i.size = λ k b.
    item-holds directory sources id i (offset + k * page_size) page_size (omega arith) (long k b) in
    let all : offset + (n - 1) * page_size + page_size ≤ i.size = held (n - 1) (omega arith) in
    let whole : find_data directory (length sources) id offset (n * page_size)
    ≡ found (i.start + offset) (n * page_size) (i.size - offset) =
    item_count directory sources id i offset (n * page_size) (omega arith) in (
      ap (λ (d : Data). d.number) whole,
      ap (data_of sources) whole
          ∙ parts-span byte sources page_size (i.start + offset) a n
          (λ k b.
          let z : i.start + offset + k * page_size ≡ i.start + (offset + k * page_size) = omega arith in
          rw z (sym (ap (data_of sources) (item_count directory sources id i (offset + k * page_size) page_size (held k b))) ∙ h k b)),
    )

-- a page's bytes in data that was found are what the item gives for the page
pub data_page : (directory sources : List ℕ) (id offset wanted k : ℕ) → (find_data directory (length sources) id offset wanted).number ≡ 0
    → k + page_size ≤ (find_data directory (length sources) id offset wanted).count
    → source_gives directory sources id (offset + k)
    ≡ part (data_of sources (find_data directory (length sources) id offset wanted)) k page_size
data_page directory sources id offset wanted k n h =
    let f = done-item directory sources id offset wanted n in
    let i : Item (length sources) (find_data directory (length sources) id) = f.0 in
    let below : offset ≤ i.size = f.1 in
    let e = i.gives offset wanted below in
    let c : (find_data directory (length sources) id offset wanted).count ≡ min wanted (i.size - offset) =
    ap (λ (d : Data). d.count) e in
    let z : i.start + offset + k ≡ i.start + (offset + k) = omega arith in
    ap (data_of sources) (item_count directory sources id i (offset + k) page_size (omega arith))
    ∙ rw (e, part-part sources (i.start + offset) (min wanted (i.size - offset)) k page_size (omega arith), z)
