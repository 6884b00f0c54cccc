-- What functions promise each other beside the definitions: places, what a fetched page is known to be, and what was done to bytes
-- of one page that is in a slot. `Same` is promised by a public one, store_over; the others by private ones, or by none (`Did`).
use Rattle.std.specs.Prelude.{◌≡◌, ℕ, ◌+◌, ◌*◌, ◌/◌, ◌%◌, ◌<◌, ◌≤◌, Bool, true, false, List, length, bit_and, slice_index}
use Rattle.bits.specs.Rounding.{page_size}
use Rattle.program.specs.Program.{run}
use Rattle.memory.specs.Storage.{State, Fitting, slot_in, store_page, valued}
use Rattle.memory.specs.Operations.{does}
use Rattle.memory.specs.Sparse.{load_wide}
use Rattle.memory.specs.declared.Memory.{Memory}

-- a page and an index in it, of an address
pub record At (page at address : ℕ) : Type 0 where
  pub same : page * page_size + at ≡ address
  pub inside : at < page_size

-- a store keeps the memory's size and its reservation
pub record Same (before after : Memory) : Type 0 where
  pub size_same : after.size ≡ before.size
  pub reservation_same : after.reservation ≡ before.reservation

-- and takes no slot that isn't there
pub record Kept (area : ℕ) (before after : Memory) : Type 0 where
  pub size_kept : after.size ≡ before.size
  pub reservation_kept : after.reservation ≡ before.reservation
  pub used_in : after.used ≤ area / page_size

-- where a fetch is done, the page is there, and its slot
pub record Fetch (number page slot : ℕ) (slots : List ℕ) (area : ℕ) (before after : Memory) : Type 0 where
  pub kept : Kept area before after
  pub there : number ≡ 0 → page < before.size / page_size
  pub slot_is : number ≡ 0 → slot ≡ slot_in slots page
  pub slot_inside : number ≡ 0 → slot < area / page_size

-- ---- bytes of one page that is in a slot

-- n bytes from a on lie in one page, which is in slot `slot`, and the lent lengths are right
pub record Spot (slots : List ℕ) (flags area : ℕ) (m : Memory) (a n slot : ℕ) : Type 0 where
  pub fit : Fitting (length slots) flags area m
  pub inside : a % page_size + n ≤ page_size
  pub slot_is : slot ≡ slot_in slots (a / page_size)

-- bytes were stored in one page whose flag has no bit of `mask`
pub record Stored (mask : ℕ) (s t : State) (a : ℕ) (bytes : List ℕ) : Type 0 where
  pub fit : Fitting (length s.slots) (length s.flags) (length s.area) s.memory
  pub some : 0 < length bytes
  pub inside : a % page_size + length bytes ≤ page_size
  pub free : bit_and (slice_index s.flags (a / page_size)) mask ≡ 0
  pub is : (0, t) ≡ store_page s (a / page_size) (a % page_size) bytes

-- that was done, or nothing
pub record StoreHere (done : Bool) (mask : ℕ) (s t : State) (a : ℕ) (bytes : List ℕ) : Type 0 where
  pub yes : done ≡ true → Stored mask s t a bytes
  pub no : done ≡ false → t ≡ s

-- a whole call was done, or nothing
pub record Did (done : Bool) (whole : ℕ × State) (s t : State) : Type 0 where
  pub yes : done ≡ true → (0, t) ≡ whole
  pub no : done ≡ false → t ≡ s

-- a number was loaded
pub record LoadHere (v : ℕ) (s : State) (a n : ℕ) : Type 0 where
  pub is : (valued v, s) ≡ run does (load_wide n a) s
