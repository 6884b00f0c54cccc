-- What a caller sees of a memory: bytes, flags, size and reservation. Slot numbers and the order of slots are not in it.
use Rattle.std.specs.Prelude.{◌≡◌, ℕ, suc, ◌+◌, ◌-◌, ◌/◌, ◌<◌, ◌≤◌, true, cond, ◌≢◌, List, [], ◌∷◌, length, take, ◌==◌, bit_or, nat_lt, slice_index}
use Rattle.bits.specs.Rounding.{page_size}
use Rattle.memory.specs.Pages.{dirty, cleared}
use Rattle.memory.specs.Storage.{State, Fitting, absent, slot_in, byte_at, span, in_page, valued, no_value}
use Rattle.memory.specs.Operations.{Op, Reply, lengths?, size?, lr?, flag?, meet?, byte?, bytes?, part!, or!, lr! }

-- ---- storage as our calls make it

-- how many pages have a slot
abbrev pub present : List ℕ → ℕ
present [] = 0
present (x ∷ xs) = cond (x == absent) (present xs) (suc (present xs))

-- right lengths; each page's slot absent or in use; no two pages on one slot; as many slots in use as pages have one
pub record WellFormed (s : State) : Type 0 where
  pub fit : Fitting (length s.slots) (length s.flags) (length s.area) s.memory
  pub held : (p : ℕ) → slot_in s.slots p ≢ absent → slot_in s.slots p < s.memory.used
  pub apart : (p q : ℕ) → slot_in s.slots p ≢ absent → slot_in s.slots p ≡ slot_in s.slots q → p ≡ q
  pub counted : present s.slots ≡ s.memory.used

-- "a slot for every page"
abbrev pub Roomy : State → Type 0
Roomy s = s.memory.size ≤ length s.area

-- the domain of the theorems on what is seen
pub record Whole (s : State) : Type 0 where
  pub formed : WellFormed s
  pub roomy : Roomy s

-- ---- the view

pub record View : Type 0 where
  -- the byte at an address, the flag of a page
  pub byte : ℕ → ℕ
  pub flag : ℕ → ℕ
  pub size : ℕ
  pub reservation : ℕ

abbrev pub view : State → View
view s =
    record { byte = byte_at s; flag = λ p. slice_index s.flags p; size = s.memory.size; reservation = s.memory.reservation }

-- ---- the operations on the view

-- a function with another value at one place
unfoldable pub at_one : (ℕ → ℕ) → ℕ → ℕ → ℕ → ℕ
at_one f p v q = cond (q == p) v (f q)

-- a memory with bytes from a on
unfoldable pub placed : (ℕ → ℕ) → ℕ → List ℕ → ℕ → ℕ
placed byte a bytes i = cond (nat_lt i a) (byte i) (cond (nat_lt i (a + length bytes)) (slice_index bytes (i - a)) (byte i))

-- a page's flag made f
abbrev pub flagged : View → ℕ → ℕ → View
flagged v p f = record { byte = v.byte; flag = at_one v.flag p f; size = v.size; reservation = v.reservation }

-- bytes from a on, all on one page, which is dirty then
abbrev pub stored : View → ℕ → List ℕ → View
stored v a bytes =
    record {
      byte = placed v.byte a bytes;
      flag = at_one v.flag (a / page_size) (bit_or (v.flag (a / page_size)) dirty);
      size = v.size;
      reservation = v.reservation;
    }

-- what is done to a page: past the machine 2, no change
abbrev pub on_page : View → ℕ → View → ℕ × View
on_page v p w = cond (nat_lt p (v.size / page_size)) (0, w) (2, v)

abbrev pub does_v : (o : Op) → View → Reply o × View
does_v lengths? v = (true, v)
does_v size? v = (v.size, v)
does_v lr? v = (v.reservation, v)
does_v (flag? p) v = (cond (nat_lt p (v.size / page_size)) (valued (v.flag p)) (no_value 2), v)
does_v (meet? p) v = (cond (nat_lt p (v.size / page_size)) 0 2, v)
does_v (byte? a) v = (v.byte a, v)
does_v (bytes? a n) v = (span v.byte a n, v)
does_v (part! a bytes) v = on_page v (a / page_size) (stored v a (take (in_page a (length bytes)) bytes))
does_v (or! p f) v = on_page v p (flagged v p (bit_or (v.flag p) f))
does_v (lr! x) v = (0, record { byte = v.byte; flag = v.flag; size = v.size; reservation = x })

-- a flag cleared, on the view
abbrev pub clear_flag_v : ℕ → ℕ → View → ℕ × View
clear_flag_v p f v = on_page v p (flagged v p (cleared (v.flag p) f))
