-- The byte at an address: after an absent page took a slot, and after bytes were written into a page.
use Rattle.std.proofs.Common.{◌≡◌, ℕ, ◌+◌, ◌-◌, ◌*◌, ◌/◌, ◌%◌, ◌<◌, ◌≤◌, ltb, ◌≢◌, ◌⊎◌, List, length, get_or, sym, refl, ap, ◌∙◌, inl, inr, arith, ltb-false, ltb-true}
use mathlib.Core.Path.{fun_ext}
use native.Mathlib.Decide.{ℕ_discrete, dec_lt}
use Rattle.bits.specs.Rounding.{page_size}
use Rattle.words.specs.Bytes.{written, filled}
use Rattle.words.proofs.Written.{written_in, written_out, written-before}
use Rattle.words.proofs.Filled.{length-filled, filled_at}
use Rattle.memory.specs.Storage.{State, absent, slot_in, byte_in, byte_at, take_slot, write_page}
use Rattle.memory.specs.View.{WellFormed, placed}
use Rattle.memory.proofs.Span as span
use Rattle.memory.proofs.StoreCases.{cases}
use Rattle.memory.proofs.WellFormed.{slot_new, slot_there, slot_old}

-- the byte at an address, by the slot of its page
module _ (slots area : List ℕ) (a : ℕ) where
  pub byte-absent : slot_in slots (a / page_size) ≡ absent → byte_in slots area a ≡ 0
  byte-absent e = sym (span.byte-absent slots area a (slot_in slots (a / page_size)) refl e)

  pub byte-held : slot_in slots (a / page_size) ≢ absent
      → byte_in slots area a ≡ get_or area (slot_in slots (a / page_size) * page_size + a % page_size) 0
  byte-held n = sym (span.byte-there slots area a (slot_in slots (a / page_size)) refl n)

-- the slot of an address's page, and the place of its byte in the area
abbrev slot_of : State → ℕ → ℕ
slot_of s a = slot_in s.slots (a / page_size)

abbrev place_of : State → ℕ → ℕ
place_of s a = slot_of s a * page_size + a % page_size

-- a page that takes a slot reads as before
module _ (s : State) (w : WellFormed s) (p : ℕ) (inside : p < s.memory.size / page_size)
    (gone : slot_in s.slots p ≡ absent) (room : s.memory.used < length s.area / page_size) where
  pub take-byte : (a : ℕ) → byte_at (take_slot s p) a ≡ byte_at s a
  unfolding take_slot
  take-byte a = elim (ℕ_discrete (a / page_size) p) [
    | yes e ↦ new e
    | no d ↦ elim (ℕ_discrete (slot_of s a) absent) [
      | yes z ↦ byte-absent t.slots t.area a (other d ∙ z) ∙ sym (byte-absent s.slots s.area a z)
      | no n ↦ old d n
    ]
  ]
    where
      t : State
      t = take_slot s p

      zeros : List ℕ
      zeros = filled page_size 0

      from : ℕ
      from = s.memory.used * page_size

      other : a / page_size ≢ p → slot_of t a ≡ slot_of s a
      other d = slot_old s w p inside gone room (a / page_size) d

      new : a / page_size ≡ p → byte_at t a ≡ byte_at s a
      new e =
          let q : slot_of t a ≡ s.memory.used = rw e (slot_new s w p inside gone room) in
          let z : length zeros ≡ page_size = length-filled page_size 0 in
          byte-held t.slots t.area a (rw e (slot_there s w p inside gone room))
          ∙ written_in s.area zeros from (place_of t a) (omega arith) (omega arith) (omega arith)
          ∙ filled_at page_size 0 _ (omega arith)
          ∙ sym (byte-absent s.slots s.area a (rw e gone))

      old : a / page_size ≢ p → slot_of s a ≢ absent → byte_at t a ≡ byte_at s a
      old d n =
          byte-held t.slots t.area a (rw (other d) n)
          ∙ ap (λ (k : ℕ). get_or (written s.area from zeros) (k * page_size + a % page_size) 0) (other d)
          ∙ written-before s.area zeros from (place_of s a) (omega (arith, w.held (a / page_size) n))
          ∙ sym (byte-held s.slots s.area a n)

-- bytes written into the page of an address are bytes placed from that address on
module _ (s : State) (w : WellFormed s) (a : ℕ) (bytes : List ℕ) (has : slot_in s.slots (a / page_size) ≢ absent)
    (fits : a % page_size + length bytes ≤ page_size) where
  after : State
  after = write_page s (a / page_size) (a % page_size) bytes

  in_area : place_of s a + length bytes ≤ length s.area
  in_area = omega (arith, w.held (a / page_size) has, w.fit.used_in)

  write_in : (i : ℕ) → a ≤ i → i < a + length bytes → byte_at after i ≡ get_or bytes (i - a) 0
  unfolding after write_page
  write_in i h k =
      let e : i / page_size ≡ a / page_size = omega arith in
      let q : slot_of s i ≡ slot_of s a = rw e in
      byte-held after.slots after.area i (rw e has)
      ∙ written_in s.area bytes (place_of s a) (place_of s i) (omega arith) (omega arith) in_area
      ∙ ap (λ (j : ℕ). get_or bytes j 0) (omega arith)

  -- a byte of another address stands before or after them: on the same page, or on another page and so on another slot
  elsewhere : (i : ℕ) → (i < a) ⊎ (a + length bytes ≤ i) → slot_of s i ≢ absent
      → (place_of s i < place_of s a) ⊎ (place_of s a + length bytes ≤ place_of s i)
  elsewhere i o n = elim (ℕ_discrete (i / page_size) (a / page_size)) [
    | yes e ↦ here e o
    | no d ↦
        let k : slot_of s i ≢ slot_of s a = λ e. d (w.apart (i / page_size) (a / page_size) n e) in
        elim (dec_lt (slot_of s i) (slot_of s a)) [
          | yes l ↦ inl (omega arith)
          | no l ↦ inr (omega arith)
        ]
  ]
    where
      here : i / page_size ≡ a / page_size → (i < a) ⊎ (a + length bytes ≤ i)
          → (place_of s i < place_of s a) ⊎ (place_of s a + length bytes ≤ place_of s i)
      here e (inl l) = inl (rw e (omega arith))
      here e (inr l) = inr (rw e (omega arith))

  write_out : (i : ℕ) → (i < a) ⊎ (a + length bytes ≤ i) → byte_at after i ≡ byte_at s i
  unfolding after write_page
  write_out i o = elim (ℕ_discrete (slot_of s i) absent) [
    | yes z ↦ byte-absent after.slots after.area i z ∙ sym (byte-absent s.slots s.area i z)
    | no n ↦
        byte-held after.slots after.area i n
        ∙ written_out s.area bytes (place_of s a) (place_of s i) (elsewhere i o n)
        ∙ sym (byte-held s.slots s.area i n)
  ]

  pub write_placed : byte_at (write_page s (a / page_size) (a % page_size) bytes) ≡ placed (byte_at s) a bytes
  unfolding after placed
  write_placed =
      fun_ext λ i.
      cases (λ (x : ℕ). byte_at after i ≡ x) (ltb i a) _ _
      (λ l. write_out i (inl (ltb-true _ _ l)))
      (λ l.
      cases (λ (x : ℕ). byte_at after i ≡ x) (ltb i (a + length bytes)) _ _
      (λ k. write_in i (ltb-false _ _ l) (ltb-true _ _ k))
      (λ k. write_out i (inr (ltb-false _ _ k))))
