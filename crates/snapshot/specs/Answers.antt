-- What the code answers, in the words of the definitions.
use Rattle.std.specs.Prelude.{◌≡◌, cond, List, [], ◌∷◌, ◌++◌, map, ℕ, zero, suc, ◌+◌, ◌*◌, ◌≤◌, length, eqb, Result, Ok, Err}
use Rattle.bits.specs.Rounding.{page_size}
use Rattle.outcome.specs.Numbers.{refusal_number}
use Rattle.outcome.specs.declared.Refusal.{Refusal}
use Rattle.words.specs.Bytes.{written}
use Rattle.memory.specs.Storage.{Fitting, met, byte_in, span}
use Rattle.memory.specs.declared.Memory.{Memory}
use Rattle.machine.specs.Fresh.{LentMachine}
use Rattle.machine.specs.Numbers.{numbers_of}
use Rattle.machine.specs.declared.Machine.{Machine}
use Rattle.recordfile.specs.declared.Record.{Record}
use Rattle.recordfile.specs.Words.{record_bytes}
use Rattle.recordfile.specs.Form.{least_records, register_records}
use Rattle.recordfile.specs.Snapshots.{Kept, DirtyRun, Snapshot, kept, dirty_run, sources_in, dirty_in, state_record, register_records_of, source_records, dirty_records}
use Rattle.tracking.specs.declared.storage.TrackedStorage.{TrackedStorage}
use Rattle.tracking.specs.declared.storage.TrackedLent.{TrackedLent}
use Rattle.tracking.specs.Answers.{tracked_of, tracked_in, tracked_read}
use Rattle.snapshot.specs.Runs.{Run, dirty_from, sources_from, total}
use Rattle.snapshot.specs.MakeSnapshot.{Made}
use Rattle.snapshot.specs.declared.make.Made as code-made
use Rattle.snapshot.specs.declared.make.Outputs.{Outputs}
use Rattle.snapshot.specs.declared.make.Counted.{Counted}
use Rattle.snapshot.specs.declared.resume.Kept as code-kept

-- a machine by value, with what is lent to it
abbrev pub lent_of : List ℕ → List ℕ → List ℕ → List ℕ → Machine → LentMachine
lent_of slots flags area records m = (tracked_of slots flags area records m.memory, numbers_of m)

-- the same, with what is lent to it to be read
abbrev pub lent_read : TrackedLent → Machine → LentMachine
lent_read s m = (tracked_read s m.memory, numbers_of m)

-- ---- a snapshot

-- what a snapshot answered, and both outputs that it left; the machine was only read. "A refused call gives 0 for each number"
abbrev pub made_of : Result code-made.Made Refusal → List ℕ → List ℕ → LentMachine → Made × LentMachine
made_of (Ok r) file pages m = (record { number = 0; records = r.records; pages = r.pages; file = file; body = pages }, m)
made_of (Err e) file pages m = (record { number = refusal_number e; records = 0; pages = 0; file = file; body = pages }, m)

-- the bytes of both files at the front of the outputs; "bytes past them stay"
abbrev pub laid : List ℕ → List ℕ → Made × LentMachine → Made × LentMachine
laid file pages r = (
  record {
    number = r.0.number;
    records = r.0.records;
    pages = r.0.pages;
    file = written file 0 r.0.file;
    body = written pages 0 r.0.body;
  },
  r.1,
)

-- the same two slices are lent, as long as before
pub record SameOutputs (old new : Outputs) : Type 0 where
  pub file : new.file.ghost_name ≡ old.file.ghost_name
  pub pages : new.pages.ghost_name ≡ old.pages.ghost_name
  pub file_long : length new.file.now ≡ length old.file.now
  pub pages_long : length new.pages.now ≡ length old.pages.now

-- ---- the first pass

-- n pages from p on are met, ascending: the first that refuses decides
unfoldable pub met_run : List ℕ → ℕ → ℕ → ℕ → ℕ
met_run slots used zero p = 0
met_run slots used (suc n) p = cond (eqb (met slots used p) 0) (met_run slots used n (p + 1)) (met slots used p)

-- a number of document 01's table, and how many runs and pages
pub record Count : Type 0 where
  pub number : ℕ
  pub runs : ℕ
  pub pages : ℕ

abbrev pub counts : ℕ → ℕ → ℕ → Count
counts k r n = record { number = k; runs = r; pages = n }

abbrev pub counted_of : Result Counted Refusal → Count
counted_of (Ok c) = counts 0 c.runs c.pages
counted_of (Err e) = counts (refusal_number e) 0 0

-- runs are met in turn and counted on; the first that refuses decides
unfoldable pub tally : List ℕ → ℕ → ℕ → ℕ → List Run → Count
tally slots used r n [] = counts 0 r n
tally slots used r n (x ∷ xs) =
    cond (eqb (met_run slots used x.pages x.page) 0)
    (tally slots used (r + 1) (n + x.pages) xs)
    (counts (met_run slots used x.pages x.page) 0 0)

-- ---- the second pass

-- a dirty run, with the bytes of its pages
abbrev pub read_out : List ℕ → List ℕ → Run → DirtyRun
read_out slots area r =
    dirty_run (r.page * page_size) r.flag (span (byte_in slots area) (r.page * page_size) (r.pages * page_size))

unfoldable pub dirty_out : List ℕ → List ℕ → List ℕ → List DirtyRun
dirty_out slots flags area = map (read_out slots area) (dirty_from flags 0)

abbrev pub kept_of : Machine → Kept
kept_of m = kept m.version m.pc m.cycles m.max_cycles m.memory.reservation

-- the records of the machine's numbers, and those of the runs
abbrev pub head_records : Machine → List Record
head_records m = state_record (kept_of m) ∷ register_records_of m.registers 0 register_records

abbrev pub run_records : List ℕ → List ℕ → List ℕ → List ℕ → List Record
run_records slots flags area records = source_records (sources_from flags records 0) ++ dirty_records 0 (dirty_out slots flags area)

-- the snapshot of a machine with what is lent to it
abbrev pub snapshot_now : List ℕ → List ℕ → List ℕ → List ℕ → Machine → Snapshot
snapshot_now slots flags area records m =
    record {
      state = kept_of m;
      registers = m.registers;
      sources = sources_from flags records 0;
      dirty = dirty_out slots flags area;
    }

-- the same of what is lent to be read
abbrev pub snapshot_read : TrackedLent → Machine → Snapshot
snapshot_read s m = snapshot_now s.slots.now s.flags.now s.area.now s.records.now m

-- the storage fits, every dirty page is met, and both outputs hold the runs: so many source runs and so many dirty runs
pub record Room (s : TrackedLent) (o : Outputs) (memory : Memory) (sources dirty : ℕ) : Type 0 where
  pub fit : Fitting (length s.slots.now) (length s.flags.now) (length s.area.now) memory
  pub met_all : (tally s.slots.now memory.used 0 0 (dirty_from s.flags.now 0)).number ≡ 0
  pub sources_are : sources ≡ length (sources_from s.flags.now s.records.now 0)
  pub dirty_are : dirty ≡ length (dirty_from s.flags.now 0)
  pub file_holds : (least_records + sources + dirty) * record_bytes ≤ length o.file.now
  pub pages_hold : total (dirty_from s.flags.now 0) * page_size ≤ length o.pages.now

-- ---- resume

-- a machine with what is lent to it
abbrev pub lent_in : TrackedStorage → Machine → LentMachine
lent_in s m = (tracked_in s m.memory, numbers_of m)

abbrev pub kept_of_file : code-kept.Kept → Kept
kept_of_file k = kept k.version k.pc k.cycles k.maximum k.reservation

-- the snapshot of a state record's numbers, of registers, and of the runs of the records that are left
abbrev pub snapshot_left : code-kept.Kept → List ℕ → List ℕ → List Record → Snapshot
snapshot_left k registers page_file rs =
    record { state = kept_of_file k; registers = registers; sources = sources_in rs; dirty = dirty_in page_file rs }
