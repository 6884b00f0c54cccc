-- What the code answers, in the words of the definitions.
use Rattle.std.specs.Prelude.{◌≡◌, ℕ, ◌*◌, List, length, Result, Ok, Err}
use Rattle.outcome.specs.Numbers.{refusal_number}
use Rattle.outcome.specs.declared.Refusal.{Refusal}
use Rattle.memory.specs.Storage.{state_of}
use Rattle.memory.specs.declared.Memory.{Memory}
use Rattle.machine.specs.Fresh.{Tracked, record_words}
use Rattle.tracking.specs.Tracking.{Stored, stored, not_stored, Recorded, not_recorded}
use Rattle.tracking.specs.declared.context.Stored as code
use Rattle.tracking.specs.declared.records.PageRecord.{PageRecord}
use Rattle.tracking.specs.declared.storage.TrackedStorage.{TrackedStorage}
use Rattle.tracking.specs.declared.storage.TrackedFlags.{TrackedFlags}
use Rattle.tracking.specs.declared.storage.TrackedLent.{TrackedLent}

-- a memory's lent storage with its records
abbrev pub tracked_of : List ℕ → List ℕ → List ℕ → List ℕ → Memory → Tracked
tracked_of slots flags area records memory = (state_of slots flags area memory, records)

abbrev pub tracked_in : TrackedStorage → Memory → Tracked
tracked_in s m = tracked_of s.slots.now s.flags.now s.area.now s.records.now m

abbrev pub tracked_flags : TrackedFlags → Memory → Tracked
tracked_flags s m = tracked_of s.slots.now s.flags.now s.area.now s.records.now m

abbrev pub tracked_read : TrackedLent → Memory → Tracked
tracked_read s m = tracked_of s.slots.now s.flags.now s.area.now s.records.now m

-- the lent records are of the right length: a record for each page's flag
abbrev pub RecordsFit : TrackedFlags → Type 0
RecordsFit s = length s.records.now ≡ record_words * length s.flags.now

-- the same four slices are lent, as long as before
pub record SameTracked (old new : TrackedStorage) : Type 0 where
  pub slots : new.slots.ghost_name ≡ old.slots.ghost_name
  pub flags : new.flags.ghost_name ≡ old.flags.ghost_name
  pub area : new.area.ghost_name ≡ old.area.ghost_name
  pub records : new.records.ghost_name ≡ old.records.ghost_name
  pub slots_long : length new.slots.now ≡ length old.slots.now
  pub flags_long : length new.flags.now ≡ length old.flags.now
  pub area_long : length new.area.now ≡ length old.area.now
  pub records_long : length new.records.now ≡ length old.records.now

-- the same, and those that are only read hold what they held
pub record SameTrackedFlags (old new : TrackedFlags) : Type 0 where
  pub slots : new.slots ≡ old.slots
  pub flags : new.flags.ghost_name ≡ old.flags.ghost_name
  pub area : new.area ≡ old.area
  pub records : new.records.ghost_name ≡ old.records.ghost_name
  pub flags_long : length new.flags.now ≡ length old.flags.now
  pub records_long : length new.records.now ≡ length old.records.now

-- a context store's; "A refused call gives 0 for each number"
abbrev pub stored_of : Result code.Stored Refusal → Stored
stored_of (Ok r) = stored r.stored r.full
stored_of (Err e) = not_stored (refusal_number e)

-- a page's record
abbrev pub recorded_of : Result PageRecord Refusal → Recorded
recorded_of (Ok r) = record { number = 0; page = r.page; tracking = r.tracking }
recorded_of (Err e) = not_recorded (refusal_number e)
