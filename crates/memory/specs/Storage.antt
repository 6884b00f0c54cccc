-- Lent storage: its lengths, a page's slot and bytes, one page fetched and written, and a fresh memory.
use Rattle.std.specs.Prelude.{◌≡◌, ℕ, zero, suc, ◌+◌, ◌-◌, ◌*◌, ◌/◌, ◌%◌, ◌^◌, ◌≤◌, min, Bool, false, cond, List, [], ◌∷◌, length, ◌==◌, bit_or, nat_le, nat_lt, slice_index, slice_index_or, slice_set}
use Rattle.bits.specs.Rounding.{page_size}
use Rattle.words.specs.Bytes.{written, filled}
use Rattle.memory.specs.Pages.{maximum, dirty, cleared}
use Rattle.memory.specs.declared.Memory.{Memory}

-- "Slot numbers have 16 bits, 65,535 for absent."
abbrev pub absent : ℕ
absent = 65535

-- "at most 65,535 slots"
abbrev pub most_slots : ℕ
most_slots = 65535

-- "reservation 2^64-1"
abbrev pub no_reservation : ℕ
no_reservation = 2 ^ 64 - 1

-- "Lent storage has a slot number, a flag .. for each page, and a slot area of whole pages .. The memory keeps a count of
-- slots in use": the three lists that are lent, and the memory's own numbers
pub record State : Type 0 where
  pub slots : List ℕ
  pub flags : List ℕ
  pub area : List ℕ
  pub memory : Memory

abbrev pub state_of : List ℕ → List ℕ → List ℕ → Memory → State
state_of slots flags area memory = record { slots = slots; flags = flags; area = area; memory = memory }

-- ---- lengths

-- "9: memory size not a multiple of 4,096 or above the maximum, lent storage of a wrong length", "a count above the slots
-- there are is 9 as a wrong length": what right lengths are
pub record Fitting (slots flags area : ℕ) (m : Memory) : Type 0 where
  pub whole : m.size % page_size ≡ 0
  pub small : m.size ≤ maximum
  pub slots_are : slots ≡ m.size / page_size
  pub flags_are : flags ≡ m.size / page_size
  pub area_whole : area % page_size ≡ 0
  pub area_small : area / page_size ≤ most_slots
  pub used_in : m.used ≤ area / page_size

-- the same as a test
unfoldable pub fits_lengths : ℕ → ℕ → ℕ → Memory → Bool
fits_lengths slots flags area m =
    cond (m.size % page_size == 0)
    (cond (nat_le m.size maximum)
    (cond (slots == m.size / page_size)
    (cond (flags == m.size / page_size)
    (cond (area % page_size == 0)
    (cond (nat_le (area / page_size) most_slots)
    (nat_le m.used (area / page_size))
    false)
    false)
    false)
    false)
    false)
    false

abbrev pub fits : State → Bool
fits s = fits_lengths (length s.slots) (length s.flags) (length s.area) s.memory

-- ---- what is read

-- a page's slot number; a page that isn't there has none
abbrev pub slot_in : List ℕ → ℕ → ℕ
slot_in slots p = slice_index_or slots p absent

-- "An absent page reads as zeros"; another's bytes stand in its slot
unfoldable pub byte_in : List ℕ → List ℕ → ℕ → ℕ
byte_in slots area a =
    cond (slot_in slots (a / page_size) == absent)
    0
    (slice_index area (slot_in slots (a / page_size) * page_size + a % page_size))

abbrev pub byte_at : State → ℕ → ℕ
byte_at s = byte_in s.slots s.area

-- the n bytes from a on, of a memory given as the byte at each address
unfoldable pub span : (ℕ → ℕ) → ℕ → ℕ → List ℕ
span byte a zero = []
span byte a (suc n) = byte a ∷ span byte (a + 1) n

-- a page whose bytes are to be read: past the machine 2; "a page's slot number met that isn't in use" 9; "slots in use, which
-- are the lowest so many"
unfoldable pub met : List ℕ → ℕ → ℕ → ℕ
met slots used p =
    cond (nat_lt p (length slots))
    (cond (slot_in slots p == absent) 0 (cond (nat_lt (slot_in slots p) used) 0 9))
    2

-- a number of document 01's table, and a value; "A refused call gives 0 for each number"
pub record Valued : Type 0 where
  pub number : ℕ
  pub value : ℕ

abbrev pub valued : ℕ → Valued
valued v = record { number = 0; value = v }

abbrev pub no_value : ℕ → Valued
no_value n = record { number = n; value = 0 }

-- a page's flag; "page past the machine: 2"
unfoldable pub flag_in : List ℕ → ℕ → Valued
flag_in flags p = cond (nat_lt p (length flags)) (valued (slice_index flags p)) (no_value 2)

-- ---- what is changed

-- "A new page takes the lowest slot not in use, zeroed first."
unfoldable pub take_slot : State → ℕ → State
take_slot s p =
    record {
      slots = slice_set s.slots p s.memory.used;
      flags = s.flags;
      area = written s.area (s.memory.used * page_size) (filled page_size 0);
      memory = record { size = s.memory.size; used = s.memory.used + 1; reservation = s.memory.reservation };
    }

-- a page that is to be written: past the machine 2; "7: an absent page must be written and all slots are in use; given then
-- only"; "a page's slot number met that isn't in use" 9
unfoldable pub fetch_page : State → ℕ → ℕ × State
fetch_page s p =
    cond (nat_lt p (s.memory.size / page_size))
    (cond (slot_in s.slots p == absent)
    (cond (nat_lt s.memory.used (length s.area / page_size)) (0, take_slot s p) (7, s))
    (cond (nat_lt (slot_in s.slots p) s.memory.used) (0, s) (9, s)))
    (2, s)

-- bytes into the page's slot, "each page marked dirty as it's written"
unfoldable pub write_page : State → ℕ → ℕ → List ℕ → State
write_page s p at bytes =
    record {
      slots = s.slots;
      flags = slice_set s.flags p (bit_or (slice_index s.flags p) dirty);
      area = written s.area (slot_in s.slots p * page_size + at) bytes;
      memory = s.memory;
    }

-- one page of a store: "On 2, 7 or 9 the part before stays", and of this page nothing is written
unfoldable pub store_page : State → ℕ → ℕ → List ℕ → ℕ × State
store_page s p at bytes = cond ((fetch_page s p).0 == 0) (0, write_page (fetch_page s p).1 p at bytes) (fetch_page s p)

-- how many of n bytes from an address on lie on its page
abbrev pub in_page : ℕ → ℕ → ℕ
in_page a n = min (page_size - a % page_size) n

-- "Set .. of a flag: OR .. page past the machine: 2, no change."
unfoldable pub or_flag : State → ℕ → ℕ → ℕ × State
or_flag s p f =
    cond (nat_lt p (length s.flags))
    (0, state_of s.slots (slice_set s.flags p (bit_or (slice_index s.flags p) f)) s.area s.memory)
    (2, s)

-- "clear of a flag: .. AND with complement; page past the machine: 2, no change."
unfoldable pub and_flag : State → ℕ → ℕ → ℕ × State
and_flag s p f =
    cond (nat_lt p (length s.flags))
    (0, state_of s.slots (slice_set s.flags p (cleared (slice_index s.flags p) f)) s.area s.memory)
    (2, s)

-- the reservation set
abbrev pub reserved : Memory → ℕ → Memory
reserved m x = record { size = m.size; used = m.used; reservation = x }

-- ---- a fresh memory

-- "A fresh memory has no slot in use (slot bytes untouched), all flags 0, reservation 2^64-1"
abbrev pub fresh_memory : ℕ → Memory
fresh_memory size = record { size = size; used = 0; reservation = no_reservation }

-- "A refused call gives 0 for each number": no memory
abbrev pub no_memory : Memory
no_memory = record { size = 0; used = 0; reservation = 0 }

-- what a fresh memory of so many bytes leaves in the storage lent for it; "lent storage of a wrong length": 9, nothing changed
unfoldable pub fresh : List ℕ → List ℕ → List ℕ → ℕ → ℕ × State
fresh slots flags area size =
    cond (fits_lengths (length slots) (length flags) (length area) (fresh_memory size))
    (0, state_of (filled (length slots) absent) (filled (length flags) 0) area (fresh_memory size))
    (9, state_of slots flags area no_memory)
