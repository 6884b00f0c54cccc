-- The sources: what an entry gives, the entries that are left, and that a place found lies in the bytes.
use Rattle.std.proofs.Common.{◌≡◌, ℕ, zero, suc, ◌+◌, ◌-◌, ◌*◌, ◌/◌, ◌<◌, ◌≤◌, min, Bool, true, false, cond, eqb, List, length, get_or, sym, refl, ◌∙◌, subst, arith, eq-eqb, ne_eqb, le-leb}
use native.Mathlib.Decide.{dec_le}
use borrow.Author.Tests.{lt-leb}
use Rattle.words.proofs.Patch.{length_part}
use Rattle.tracking.specs.declared.sources.Place.{Place}
use Rattle.tracking.specs.Sources.{Data, found, found_at, missing, entry_words, data_in, among, find_data, data_of}

-- ---- what an entry gives
module _ (room start size offset wanted : ℕ) where
  -- it ends past the bytes
  pub outside : room < start + size → missing ≡ data_in room start size offset wanted
  unfolding data_in
  outside h = simp (lt-leb (start + size) room h)

  module _ (h : start + size ≤ room) where
    -- the offset is above its length
    pub entry-short : size < offset → missing ≡ data_in room start size offset wanted
    unfolding data_in
    entry-short o = simp (le-leb (start + size) room h, lt-leb offset size o)

    pub entry_found : (full count : ℕ) → offset ≤ size → full ≡ size - offset → count ≡ min wanted full
        → found (start + offset) count full ≡ data_in room start size offset wanted
    unfolding data_in
    entry_found full count o f e = rw (e, f) (simp (le-leb (start + size) room h, le-leb offset size o))

-- ---- the entries that are left from i on
module _ (directory : List ℕ) (room id offset wanted : ℕ) where
  -- they give what all of them give
  abbrev pub Left : ℕ → Type 0
  Left i =
      among directory room id offset wanted (length directory / entry_words - i) i ≡ find_data directory room id offset wanted

  pub left-all : Left 0
  unfolding find_data
  left-all =
      let z : length directory / entry_words - 0 ≡ length directory / entry_words = omega arith in
      rw z

  module _ (i : ℕ) where
    one_more : i < length directory / entry_words → length directory / entry_words - i ≡ suc (length directory / entry_words - (i + 1))
    one_more h = omega arith

    module _ (w : Left i) where
      pub left_none : length directory / entry_words ≤ i → missing ≡ find_data directory room id offset wanted
      unfolding among
      left_none h =
          let z : length directory / entry_words - i ≡ 0 = omega arith in
          rw z at w

      module _ (h : i < length directory / entry_words) where
        pub left_here : (d : Data) → get_or directory (i * entry_words) 0 ≡ id
            → d ≡ data_in room (get_or directory (i * entry_words + 1) 0) (get_or directory (i * entry_words + 2) 0) offset wanted
            → d ≡ find_data directory room id offset wanted
        unfolding among
        left_here d e q = q ∙ simp (one_more h, eq-eqb _ _ e) at w

        pub left-next : (get_or directory (i * entry_words) 0 ≡ id → ⊥) → Left (i + 1)
        unfolding among
        left-next n = simp (one_more h, ne_eqb _ _ n) at w

-- ---- a place found lies in the bytes

-- what a lookup gives: nothing lies past the bytes, and no more is given than remains
pub record Inside (room : ℕ) (d : Data) : Type 0 where
  pub ends_in : d.start + d.count ≤ room
  pub in_full : d.count ≤ d.full

nothing_inside : (room : ℕ) → Inside room missing
nothing_inside room = record { ends_in = omega arith; in_full = omega arith }

entry-inside : (room start size offset wanted : ℕ) → Inside room (data_in room start size offset wanted)
entry-inside room start size offset wanted = elim (dec_le (start + size) room) [
  | yes h ↦ elim (dec_le offset size) [
    | yes o ↦ subst (Inside room) (entry_found room start size offset wanted h _ _ o refl refl) (record { ends_in = omega arith; in_full = omega arith })
    | no o ↦ subst (Inside room) (entry-short room start size offset wanted h (omega arith)) (nothing_inside room)
  ]
  | no h ↦ subst (Inside room) (outside room start size offset wanted (omega arith)) (nothing_inside room)
]

cond_inside : (room : ℕ) (b : Bool) (d e : Data) → Inside room d → Inside room e → Inside room (cond b d e)
cond_inside room true d e i j = i
cond_inside room false d e i j = j

module _ (directory : List ℕ) (room id offset wanted : ℕ) where
  among-inside : (n i : ℕ) → Inside room (among directory room id offset wanted n i)
  unfolding among
  among-inside zero i = nothing_inside room
  among-inside (suc n) i =
      cond_inside room (eqb (get_or directory (i * entry_words) 0) id) _ _ (entry-inside room _ _ offset wanted) (among-inside n (i + 1))

  pub lookup_inside : Inside room (find_data directory room id offset wanted)
  unfolding find_data
  lookup_inside = among-inside (length directory / entry_words) 0

  module _ (p : Place) (q : found_at p ≡ find_data directory room id offset wanted) where
    placed-inside : Inside room (found_at p)
    placed-inside = subst (Inside room) (sym q) lookup_inside

    pub found_inside : p.start + p.count ≤ room
    found_inside = placed-inside.ends_in

    pub found-full : p.count ≤ p.full
    found-full = placed-inside.in_full

-- data found in these bytes has the length that was answered
pub found-length : (directory sources : List ℕ) (id offset wanted : ℕ) (p : Place)
    → found_at p ≡ find_data directory (length sources) id offset wanted → length (data_of sources (found_at p)) ≡ p.count
found-length directory sources id offset wanted p q =
    length_part sources p.start p.count (found_inside directory (length sources) id offset wanted p q)
