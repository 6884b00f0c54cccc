-- What a store, flags that are set and pages that are tracked come to on the view, page by page.
use mathlib.Core.List.{List}
use mathlib.Core.Logic.{◌⊎◌}
use mathlib.Core.Path.{◌≡◌}
use Prim.Native.Nat.{ℕ, ◌+◌, ◌-◌, ◌*◌, ◌≤◌, ◌<◌}
use lib.Bits.{bit_or}
use lib.ListN.{length, get_or}
use Rattle.bits.specs.Rounding.{page_size}
use Rattle.memory.specs.Pages.{dirty, cleared}
use Rattle.memory.specs.View as memory
use Rattle.tracking.specs.declared.records.Tracking.TheVariants.{Tracked}
use Rattle.tracking.specs.Operations.{masked}
use Rattle.handover.specs.View.{View}

-- a dirty page shows no entry
abbrev pub Masked : View → Type 0
Masked v = (q : ℕ) → masked (v.memory.flag q) (v.entry q) ≡ v.entry q

-- page q has some of the n bytes from a on
pub record Touched (a n q : ℕ) : Type 0 where
  pub some : 0 < n
  pub above : a < (q + 1) * page_size
  pub below : q * page_size < a + n

-- and none
abbrev pub Apart : ℕ → ℕ → ℕ → Type 0
Apart a n q = ((q + 1) * page_size ≤ a) ⊎ ((a + n ≤ q * page_size) ⊎ (n ≡ 0))

-- bytes stored from a on, and the pages that have some of them dirty
pub record Stored (v : memory.View) (a : ℕ) (bytes : List ℕ) (r : ℕ × memory.View) : Type 0 where
  pub done : r.0 ≡ 0
  pub size : r.1.size ≡ v.size
  pub reservation : r.1.reservation ≡ v.reservation
  pub byte_inside : (i : ℕ) → i < length bytes → r.1.byte (a + i) ≡ get_or bytes i 0
  pub byte_out : (x : ℕ) → (x < a) ⊎ (a + length bytes ≤ x) → r.1.byte x ≡ v.byte x
  pub flag_inside : (q : ℕ) → Touched a (length bytes) q → r.1.flag q ≡ bit_or (v.flag q) dirty
  pub flag_out : (q : ℕ) → Apart a (length bytes) q → r.1.flag q ≡ v.flag q

-- a flag set on n pages
pub record Ored (v : memory.View) (first n f : ℕ) (r : ℕ × memory.View) : Type 0 where
  pub done : r.0 ≡ 0
  pub size : r.1.size ≡ v.size
  pub reservation : r.1.reservation ≡ v.reservation
  pub byte : (x : ℕ) → r.1.byte x ≡ v.byte x
  pub flag_inside : (q : ℕ) → first ≤ q → q < first + n → r.1.flag q ≡ bit_or (v.flag q) f
  pub flag_out : (q : ℕ) → (q < first) ⊎ (first + n ≤ q) → r.1.flag q ≡ v.flag q

-- n pages tracked
pub record Tracks (v : View) (first n id offset : ℕ) (r : ℕ × View) : Type 0 where
  pub done : r.0 ≡ 0
  pub size : r.1.memory.size ≡ v.memory.size
  pub reservation : r.1.memory.reservation ≡ v.memory.reservation
  pub byte : (x : ℕ) → r.1.memory.byte x ≡ v.memory.byte x
  pub flag_inside : (q : ℕ) → first ≤ q → q < first + n → r.1.memory.flag q ≡ cleared (v.memory.flag q) dirty
  pub flag_out : (q : ℕ) → (q < first) ⊎ (first + n ≤ q) → r.1.memory.flag q ≡ v.memory.flag q
  pub entry_inside : (q : ℕ) → first ≤ q → q < first + n
      → r.1.entry q ≡ Tracked id (offset + (q - first) * page_size) (cleared (v.memory.flag q) dirty)
  pub entry_out : (q : ℕ) → (q < first) ⊎ (first + n ≤ q) → r.1.entry q ≡ v.entry q
