-- The answers of C functions in the words of the definitions of the crates below: a number of document 01's table with the values.
use Rattle.std.specs.Prelude.{List, ℕ}
use Rattle.memory.specs.declared.Memory.{Memory}
use Rattle.memory.specs.Pages.{PageIndices}
use Rattle.memory.specs.Storage.{State, Valued, state_of}
use Rattle.machine.specs.Numbers.{numbers_of}
use Rattle.machine.specs.Fresh.{Tracked, LentMachine}
use Rattle.tracking.specs.declared.records.Tracking.{Tracking}
use Rattle.tracking.specs.declared.records.Tracking.TheVariants as tracking
use Rattle.tracking.specs.Sources.{Data}
use Rattle.tracking.specs.Tracking as calls
use Rattle.tracking.specs.Answers.{tracked_of}
use Rattle.snapshot.specs.MakeSnapshot as snapshot
use Rattle.host.specs.declared.Stored.{Stored}
use Rattle.host.specs.declared.Fresh.{Fresh}
use Rattle.host.specs.declared.Value.{Value}
use Rattle.host.specs.declared.Indices.{Indices}
use Rattle.host.specs.declared.MachineAnswer.{MachineAnswer}
use Rattle.host.specs.declared.Found.{Found}
use Rattle.host.specs.declared.ContextStored.{ContextStored}
use Rattle.host.specs.declared.Recorded.{Recorded}
use Rattle.host.specs.declared.Made.{Made}

-- a memory as a host lends it: its size and its slots in use. The reservation stays with the host, and none of these calls looks
-- at it
abbrev pub memory_of : ℕ → ℕ → Memory
memory_of size used = record { size = size; used = used; reservation = 0 }

abbrev pub lent : List ℕ → List ℕ → List ℕ → ℕ → ℕ → State
lent slots flags area size used = state_of slots flags area (memory_of size used)

-- what a store comes to for a host: a number, the three lists, and the slots in use
pub record Left : Type 0 where
  pub number : ℕ
  pub slots : List ℕ
  pub flags : List ℕ
  pub area : List ℕ
  pub used : ℕ

abbrev pub left : ℕ × State → Left
left r = record { number = r.0; slots = r.1.slots; flags = r.1.flags; area = r.1.area; used = r.1.memory.used }

abbrev pub handed : Stored → List ℕ → List ℕ → List ℕ → Left
handed r slots flags area = record { number = r.number; slots = slots; flags = flags; area = area; used = r.used }

abbrev pub handed_fresh : Fresh → List ℕ → List ℕ → List ℕ → ℕ × State
handed_fresh r slots flags area = (r.number, state_of slots flags area r.memory)

abbrev pub handed_value : Value → Valued
handed_value r = record { number = r.number; value = r.value }

abbrev pub handed_indices : Indices → PageIndices
handed_indices r = record { number = r.number; first = r.first; last = r.last }

-- ---- a machine

abbrev pub handed_machine : MachineAnswer → List ℕ → List ℕ → List ℕ → List ℕ → ℕ × LentMachine
handed_machine r slots flags area records =
    (r.number, ((state_of slots flags area r.machine.memory, records), numbers_of r.machine))

-- ---- sources and tracking

-- a memory with its records, as a host lends them
abbrev pub lent_tracked : List ℕ → List ℕ → List ℕ → List ℕ → ℕ → ℕ → Tracked
lent_tracked slots flags area records size used = tracked_of slots flags area records (memory_of size used)

abbrev pub handed_found : Found → Data
handed_found r = record { number = r.number; start = r.start; count = r.count; full = r.full }

-- what a context store comes to for a host: a number, the bytes stored, the full length, the four lists, and the slots in use
pub record LeftContext : Type 0 where
  pub number : ℕ
  pub stored : ℕ
  pub full : ℕ
  pub slots : List ℕ
  pub flags : List ℕ
  pub area : List ℕ
  pub records : List ℕ
  pub used : ℕ

abbrev pub left_context : calls.Stored × Tracked → LeftContext
left_context r =
    record {
      number = r.0.number;
      stored = r.0.stored;
      full = r.0.full;
      slots = r.1.0.slots;
      flags = r.1.0.flags;
      area = r.1.0.area;
      records = r.1.1;
      used = r.1.0.memory.used;
    }

abbrev pub handed_context : ContextStored → List ℕ → List ℕ → List ℕ → List ℕ → LeftContext
handed_context r slots flags area records =
    record {
      number = r.number;
      stored = r.stored;
      full = r.full;
      slots = slots;
      flags = flags;
      area = area;
      records = records;
      used = r.used;
    }

-- a page's record for a host: a number, 1 where the page is tracked, and then id, offset and flag; 0 for each otherwise
pub record ShownRecord : Type 0 where
  pub number : ℕ
  pub tracked : ℕ
  pub id : ℕ
  pub offset : ℕ
  pub flag : ℕ

abbrev pub shown_of : ℕ → Tracking → ShownRecord
shown_of n tracking.Untracked = record { number = n; tracked = 0; id = 0; offset = 0; flag = 0 }
shown_of n (tracking.Tracked id offset flag) = record { number = n; tracked = 1; id = id; offset = offset; flag = flag }

abbrev pub shown : calls.Recorded × Tracked → ShownRecord × Tracked
shown r = (shown_of r.0.number r.0.tracking, r.1)

abbrev pub handed_record : Recorded → ShownRecord
handed_record r = record { number = r.number; tracked = r.tracked; id = r.id; offset = r.offset; flag = r.flag }

-- ---- a snapshot

abbrev pub handed_made : Made → List ℕ → List ℕ → LentMachine → snapshot.Made × LentMachine
handed_made r file pages m =
    (record { number = r.number; records = r.records; pages = r.pages; file = file; body = pages }, m)
