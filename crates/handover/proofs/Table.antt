-- Document 01's table, whole: "Proved together, as a single table: the three roundings up, the three page indices, the two 10-byte
-- item loads, and these for 4 pages: two bytes at 16,383, ..; track (4,096, 4,095) none; (4,096, 4,096) page 1; (1, 4,094) none;
-- (100, 10,000) page 1, 3,996 bytes on."
use mathlib.Core.Path.{◌≡◌, refl, sym, ap, ◌∙◌, subst⁻¹}
use mathlib.Core.Bool.{Bool, true, false, cond}
use mathlib.Core.List.{List, [], ◌∷◌}
use mathlib.Core.Logic.{◌≢◌}
use Prim.Native.Nat.{ℕ, zero, suc, ◌+◌, ◌-◌, ◌*◌, ◌/◌, ◌≤◌, ◌<◌, min}
use native.Mathlib.Nat.{zero-add}
use native.Mathlib.Numerals.{unary_clauses}
use native.Mathlib.Omega.{arith}
use lib.ListN.{length, get_or}
use lib.Bits.{bit_and}
use lib.Dec.{eqb, leb, ltb}
use borrow.Author.Tests.{eqb-true, le-leb, eq-eqb, ne_eqb, le-ltb}
use Rattle.words.specs.Bytes.{filled}
use Rattle.words.proofs.Filled.{length-filled}
use Rattle.program.specs.Program.{ret, run, bind, after, onwards, each}
use Rattle.memory.specs.Pages.{dirty}
use Rattle.memory.specs.Storage.{state_of, absent, fits_lengths, fresh_memory}
use Rattle.memory.specs.Storage as storage
use Rattle.memory.proofs.Lengths.{fits-are}
use Rattle.memory.proofs.Table as memory
use Rattle.machine.specs.Fresh.{Tracked, record_words, fresh, fresh_over, records_fit}
use Rattle.tracking.specs.declared.records.Tracking.TheVariants as tracking
use Rattle.tracking.specs.Sources.{entry_words, found, missing, find_data, among, data_in, data_of}
use Rattle.tracking.specs.Records.{record_of}
use Rattle.tracking.specs.Operations.{top, does, fits_all, masked, entry_in, track_page}
use Rattle.tracking.specs.Tracking.{track, track_whole, track_pages}
use Rattle.tracking.proofs.Lengths.{all_fit, fit-yes}
use Rattle.handover.proofs.WellFormed.{FreshFits, fresh-told, fresh-done}

-- ---- "the two 10-byte item loads"

-- an item: the first entry of a directory with an id, whose range is in the source bytes
pub record Item (directory sources : List ℕ) (id start size : ℕ) : Type 0 where
  pub index : ℕ
  pub there : index < length directory / entry_words
  pub id_is : get_or directory (index * entry_words) 0 ≡ id
  pub first : (i : ℕ) → i < index → get_or directory (i * entry_words) 0 ≢ id
  pub start_is : get_or directory (index * entry_words + 1) 0 ≡ start
  pub size_is : get_or directory (index * entry_words + 2) 0 ≡ size
  pub inside : start + size ≤ length sources

-- "An item of 10 bytes at offset 10 gives no data and 0; at 11, refusal 6."
pub record TenBytes (directory sources : List ℕ) (id start wanted : ℕ) : Type 0 where
  pub at_10 : find_data directory (length sources) id 10 wanted ≡ found (start + 10) 0 0
  pub no_data : data_of sources (find_data directory (length sources) id 10 wanted) ≡ []
  pub at_11 : find_data directory (length sources) id 11 wanted ≡ missing

-- ---- "track"

-- a track call on a machine
abbrev pub tracks : ℕ → ℕ → ℕ → ℕ → Tracked → ℕ × Tracked
tracks start size id offset m = run does (track_pages start size id offset) m

-- page 1 is tracked, from this offset of the item on, with flag 0; no other page is, and the memory is as it was
pub record PageOne (m : Tracked) (id offset : ℕ) (r : ℕ × Tracked) : Type 0 where
  pub number : r.0 ≡ 0
  pub memory : r.1.0 ≡ m.0
  pub page_1 : entry_in r.1.0.flags r.1.1 1 ≡ tracking.Tracked id offset 0
  pub others : (p : ℕ) → p ≢ 1 → entry_in r.1.0.flags r.1.1 p ≡ tracking.Untracked

-- "track"; an offset is a number of 64 bits, and the end of the page in the item is one
pub record Tracks (m : Tracked) (id offset : ℕ) : Type 0 where
  -- before the call: every flag is 0, and no page is tracked
  pub flags : m.0.flags ≡ 0 ∷ 0 ∷ 0 ∷ 0 ∷ []
  pub untracked : (p : ℕ) → entry_in m.0.flags m.1 p ≡ tracking.Untracked
  -- "(4,096, 4,095) none"
  pub short : offset ≤ top → tracks 4096 4095 id offset m ≡ (0, m)
  -- "(4,096, 4,096) page 1"
  pub whole : offset + 4096 ≤ top → PageOne m id offset (tracks 4096 4096 id offset m)
  -- "(1, 4,094) none"
  pub head : tracks 1 4094 id offset m ≡ (0, m)
  -- "(100, 10,000) page 1, 3,996 bytes on"
  pub across : offset + 3996 + 4096 ≤ top → PageOne m id (offset + 3996) (tracks 100 10000 id offset m)

-- ---- the table

pub record Table : Type 0 where
  -- "the three roundings up, the three page indices", and "two bytes at 16,383"
  pub memory : memory.Table
  -- "the two 10-byte item loads", of any such item, whatever length is wanted
  pub loads : (directory sources : List ℕ) (id start wanted : ℕ) → Item directory sources id start 10
      → TenBytes directory sources id start wanted
  -- such items there are: the first of a directory
  pub items : (id start : ℕ) (rest sources : List ℕ) → start + 10 ≤ length sources
      → Item (id ∷ start ∷ 10 ∷ rest) sources id start 10
  -- "these for 4 pages: .. track": of any storage that is lent to a fresh machine, for any item and any offset in it
  pub tracking : (slots flags area records : List ℕ) (version maximum : ℕ)
      → (fresh slots flags area records 16384 version maximum).0 ≡ 0 → (id offset : ℕ)
      → Tracks (fresh slots flags area records 16384 version maximum).1.0 id offset
  -- such storage there is: four slot numbers, four flags, 16,384 bytes and twelve words
  pub lent : (x₀ x₁ x₂ x₃ f₀ f₁ f₂ f₃ v w version maximum : ℕ)
      → (fresh (x₀ ∷ x₁ ∷ x₂ ∷ x₃ ∷ []) (f₀ ∷ f₁ ∷ f₂ ∷ f₃ ∷ []) (filled 16384 v) (filled 12 w) 16384 version maximum).0 ≡ 0

-- ---- the proof: an item

-- entries before the item are passed by
among-item : (directory : List ℕ) (room id offset wanted n k i : ℕ)
    → ((j : ℕ) → j < k → get_or directory ((i + j) * entry_words) 0 ≢ id)
    → among directory room id offset wanted (n + k) i ≡ among directory room id offset wanted n (i + k)
unfolding among
among-item directory room id offset wanted n zero i h = simp unary_clauses
among-item directory room id offset wanted n (suc k) i h =
    let z : n + suc k ≡ suc (n + k) = omega arith in
    let y : i + suc k ≡ i + 1 + k = omega arith in
    rw (z, y, ne_eqb (get_or directory (i * entry_words) 0) id (simp unary_clauses at (h 0 (omega arith))))
    (among-item directory room id offset wanted n k (i + 1)
    (λ j b. let x : i + 1 + j ≡ i + suc j = omega arith in rw x (h (suc j) (omega arith))))

module _ (directory sources : List ℕ) (id start size offset wanted : ℕ) (item : Item directory sources id start size) where
  item_data : find_data directory (length sources) id offset wanted ≡ data_in (length sources) start size offset wanted
  unfolding find_data among
  item_data =
      let k : ℕ = item.index in
      let n : ℕ = length directory / entry_words - suc k in
      let z : length directory / entry_words ≡ suc n + k = omega (arith, item.there) in
      ap (λ e. among directory (length sources) id offset wanted e 0) z
      ∙ among-item directory (length sources) id offset wanted (suc n) k 0 (λ j b. rw zero-add (item.first j b))
      ∙ rw (zero-add, item.id_is, item.start_is, item.size_is, eq-eqb id id refl)

ten-bytes : (directory sources : List ℕ) (id start wanted : ℕ) → Item directory sources id start 10
    → TenBytes directory sources id start wanted
unfolding data_in
ten-bytes directory sources id start wanted item =
    let e : leb (start + 10) (length sources) ≡ true = le-leb _ _ item.inside in
    let z : min wanted (10 - 10) ≡ 0 = omega arith in
    let at_10 : find_data directory (length sources) id 10 wanted ≡ found (start + 10) 0 0 =
    item_data directory sources id start 10 10 wanted item ∙ rw (e, z) in
    record {
      at_10 = at_10;
      no_data = ap (data_of sources) at_10;
      at_11 = item_data directory sources id start 10 11 wanted item ∙ rw e;
    }

-- such an item: the first of a directory
item-first : (id start : ℕ) (rest sources : List ℕ) → start + 10 ≤ length sources → Item (id ∷ start ∷ 10 ∷ rest) sources id start 10
item-first id start rest sources h =
    record {
      index = 0;
      there = omega arith;
      id_is = refl;
      first = λ i b. absurd (omega arith);
      start_is = refl;
      size_is = refl;
      inside = h;
    }

-- ---- track, on a fresh machine's lists

abbrev zeros : List ℕ
zeros = 0 ∷ 0 ∷ 0 ∷ 0 ∷ []

-- the words of four pages, all 0 but those of page 1
abbrev words : ℕ → ℕ → ℕ → List ℕ
words id offset mark = 0 ∷ 0 ∷ 0 ∷ id ∷ offset ∷ mark ∷ 0 ∷ 0 ∷ 0 ∷ 0 ∷ 0 ∷ 0 ∷ []

abbrev blank : List ℕ → List ℕ → Tracked
blank slots area = (state_of slots zeros area (fresh_memory 16384), words 0 0 0)

abbrev on_page_one : List ℕ → List ℕ → ℕ → ℕ → Tracked
on_page_one slots area id offset = (state_of slots zeros area (fresh_memory 16384), words id offset 256)

-- one whole page
module _ (slots area : List ℕ) (id offset : ℕ) where
  page-marked : offset + 4096 ≤ top → track_page (blank slots area) 1 id offset ≡ (0, on_page_one slots area id offset)
  unfolding track_page
  page-marked h = rw (le-leb (offset + 4096) top h)

  page_one_run : offset + 4096 ≤ top → run does (track_whole 1 1 id offset) (blank slots area) ≡ (0, on_page_one slots area id offset)
  unfolding run bind after each track_whole
  page_one_run h =
      let z : offset + 0 ≡ offset = omega arith in
      ap (λ (r : ℕ × Tracked). run does (onwards (λ n. n) (ret 0) r.0) r.1) (ap (track_page (blank slots area) 1 id) z ∙ page-marked h)

-- lengths are right, and the offset is in bounds
module _ (slots area : List ℕ) (id offset : ℕ) (fit : true ≡ fits_all (length slots) 4 (length area) 12 (fresh_memory 16384)) where
  fitted : (start size : ℕ) → tracks start size id offset (blank slots area) ≡ run does (track start size id offset) (blank slots area)
  unfolding track_pages
  fitted start size = sym (fit-yes (λ n. n) (blank slots area) (track start size id offset) true fit _ refl refl)

  head-run : tracks 1 4094 id offset (blank slots area) ≡ (0, blank slots area)
  unfolding run track
  head-run = fitted 1 4094

  inside_bounds : (d first count : ℕ) → offset + d ≤ top
      → run does (cond (ltb top (offset + d)) (ret 2) (track_whole first count id (offset + d))) (blank slots area)
      ≡ run does (track_whole first count id (offset + d)) (blank slots area)
  inside_bounds d first count h =
      ap (λ (b : Bool). run does (cond b (ret 2) (track_whole first count id (offset + d))) (blank slots area)) (le-ltb top (offset + d) h)

  short-run : offset ≤ top → tracks 4096 4095 id offset (blank slots area) ≡ (0, blank slots area)
  unfolding run track track_whole each
  short-run h = fitted 4096 4095 ∙ inside_bounds 0 1 0 (omega arith)

  whole_run : offset + 4096 ≤ top → tracks 4096 4096 id offset (blank slots area) ≡ (0, on_page_one slots area id offset)
  unfolding track
  whole_run h =
      let z : offset + 0 ≡ offset = omega arith in
      fitted 4096 4096 ∙ inside_bounds 0 1 1 (omega arith) ∙ rw z (page_one_run slots area id offset h)

  across-run : offset + 3996 + 4096 ≤ top → tracks 100 10000 id offset (blank slots area) ≡ (0, on_page_one slots area id (offset + 3996))
  unfolding track
  across-run h = fitted 100 10000 ∙ inside_bounds 3996 1 1 (omega arith) ∙ page_one_run slots area id (offset + 3996) h

-- a mark of 0 is that of an untracked page
masked_none : (f : ℕ) → masked f tracking.Untracked ≡ tracking.Untracked
unfolding masked
masked_none f = go (eqb (bit_and f dirty) 0)
  where
    go : (b : Bool) → cond b tracking.Untracked tracking.Untracked ≡ tracking.Untracked
    go true = refl
    go false = refl

mark_none : (flags records : List ℕ) (p : ℕ) → get_or records (p * record_words + 2) 0 ≡ 0 → entry_in flags records p ≡ tracking.Untracked
unfolding record_of
mark_none flags records p e = rw e (masked_none (get_or flags p 0))

marks_none : (id offset mark p : ℕ) → (p ≡ 1 → mark ≡ 0) → get_or (words id offset mark) (p * record_words + 2) 0 ≡ 0
marks_none id offset mark zero n = refl
marks_none id offset mark (suc zero) n = n refl
marks_none id offset mark (suc (suc zero)) n = refl
marks_none id offset mark (suc (suc (suc zero))) n = refl
marks_none id offset mark (suc (suc (suc (suc p)))) n =
    let z : suc (suc (suc (suc p))) * record_words + 2 ≡ suc (suc (suc (suc (suc (suc (suc (suc (suc (suc (suc (suc (p * record_words + 2)))))))))))) = omega arith in
    rw z

-- so page 1 is tracked, and no other
page_one : (slots area : List ℕ) (id offset : ℕ) (r : ℕ × Tracked) → r ≡ (0, on_page_one slots area id offset)
    → PageOne (blank slots area) id offset r
unfolding masked record_of
page_one slots area id offset r e =
    subst⁻¹ (PageOne (blank slots area) id offset) e
    (record {
      number = refl;
      memory = refl;
      page_1 = refl;
      others = λ p n. mark_none zeros (words id offset 256) p (marks_none id offset 256 p (λ t. absurd (n t)));
    })

blank-tracks : (slots area : List ℕ) (id offset : ℕ) → true ≡ fits_all (length slots) 4 (length area) 12 (fresh_memory 16384)
    → Tracks (blank slots area) id offset
blank-tracks slots area id offset fit =
    record {
      flags = refl;
      untracked = λ p. mark_none zeros (words 0 0 0) p (marks_none 0 0 0 p (λ t. refl));
      short = short-run slots area id offset fit;
      whole = λ h. page_one slots area id offset _ (whole_run slots area id offset fit h);
      head = head-run slots area id offset fit;
      across = λ h. page_one slots area id (offset + 3996) _ (across-run slots area id offset fit h);
    }

-- ---- a fresh machine of 4 pages

module _ (slots flags area records : List ℕ) (version maximum : ℕ)
    (e : (fresh slots flags area records 16384 version maximum).0 ≡ 0) where
  told : FreshFits slots flags area records 16384 version maximum
  told = fresh-told slots flags area records 16384 version maximum e

  pages : length flags ≡ 4
  pages = (fits-are _ _ _ _ told.1).flags_are

  blank-made : (fresh slots flags area records 16384 version maximum).1.0 ≡ blank (filled (length slots) absent) area
  unfolding filled records_fit
  blank-made =
      let n : length records ≡ 12 = eqb-true _ _ told.0 in
      rw (fresh-done slots flags area records 16384 version maximum e, pages, n)

  blank-fits : true ≡ fits_all (length (filled (length slots) absent)) 4 (length area) 12 (fresh_memory 16384)
  unfolding records_fit
  blank-fits = all_fit _ 4 (length area) 12 _ true true (rw (length-filled, ← pages, told.1)) refl refl

  tracked-pages : (id offset : ℕ) → Tracks (fresh slots flags area records 16384 version maximum).1.0 id offset
  tracked-pages id offset =
      subst⁻¹ (λ (m : Tracked). Tracks m id offset) blank-made
      (blank-tracks (filled (length slots) absent) area id offset blank-fits)

-- ---- all of it

pub table : Table
unfolding fresh fresh_over storage.fresh fits_lengths records_fit filled
table =
    record {
      memory = memory.table;
      loads = ten-bytes;
      items = item-first;
      tracking = tracked-pages;
      lent = λ x₀ x₁ x₂ x₃ f₀ f₁ f₂ f₃ v w version maximum. refl;
    }
