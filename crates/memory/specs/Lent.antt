-- Lent storage, as the code holds it.
use Rattle.std.specs.Prelude.{◌≡◌, ℕ, List, length, Result, Ok, Err}
use Rattle.words.specs.Bytes.{filled}
use Rattle.outcome.specs.Numbers.{refusal_number}
use Rattle.outcome.specs.declared.Refusal.{Refusal}
use Rattle.memory.specs.Storage.{State, Fitting, state_of, no_memory}
use Rattle.memory.specs.declared.Memory.{Memory}
use Rattle.memory.specs.declared.storage.Storage.{Storage}
use Rattle.memory.specs.declared.storage.Lent.{Lent}
use Rattle.memory.specs.declared.storage.LentFlags.{LentFlags}
use Rattle.memory.specs.declared.storage.Bytes.{Bytes}
use Rattle.memory.specs.declared.storage.Bytes.TheVariants.{These, Filled}
use Rattle.memory.specs.declared.storage.Width.{Width}
use Rattle.memory.specs.declared.storage.Width.TheVariants.{One, Two, Four, Eight}

-- what the slices hold, with a memory's own numbers
abbrev pub seen : Storage → Memory → State
seen s m = state_of s.slots.now s.flags.now s.area.now m

abbrev pub read_in : Lent → Memory → State
read_in s m = state_of s.slots.now s.flags.now s.area.now m

abbrev pub flags_in : LentFlags → Memory → State
flags_in l m = state_of l.slots.now l.flags.now l.area.now m

-- the lent lengths are right
abbrev pub Fits : Storage → Memory → Type 0
Fits s m = Fitting (length s.slots.now) (length s.flags.now) (length s.area.now) m

abbrev pub FitsRead : Lent → Memory → Type 0
FitsRead s m = Fitting (length s.slots.now) (length s.flags.now) (length s.area.now) m

-- the same three slices are lent, as long as before
pub record SameSlices (old new : Storage) : Type 0 where
  pub slots : new.slots.ghost_name ≡ old.slots.ghost_name
  pub flags : new.flags.ghost_name ≡ old.flags.ghost_name
  pub area : new.area.ghost_name ≡ old.area.ghost_name
  pub slots_long : length new.slots.now ≡ length old.slots.now
  pub flags_long : length new.flags.now ≡ length old.flags.now
  pub area_long : length new.area.now ≡ length old.area.now

-- the same three slices are lent, and of the flags as many as before
pub record SameFlags (old new : LentFlags) : Type 0 where
  pub slots : new.slots ≡ old.slots
  pub flags : new.flags.ghost_name ≡ old.flags.ghost_name
  pub area : new.area ≡ old.area
  pub flags_long : length new.flags.now ≡ length old.flags.now

abbrev pub bytes_of : Bytes → List ℕ
bytes_of (These bytes) = bytes.now
bytes_of (Filled value count) = filled count value

-- the number that a fresh memory was answered with, and the storage that was left; "A refused call gives 0 for each number"
abbrev pub made : Result Memory Refusal → Storage → ℕ × State
made (Ok m) s = (0, seen s m)
made (Err e) s = (refusal_number e, seen s no_memory)

abbrev pub width_of : Width → ℕ
width_of One = 1
width_of Two = 2
width_of Four = 4
width_of Eight = 8
