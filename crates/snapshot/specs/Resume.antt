-- Resume as a program, in document 01's order.
use Rattle.std.specs.Prelude.{cond, List, ℕ, ◌*◌, ◌/◌, ◌%◌, length, eqb}
use Rattle.bits.specs.Rounding.{page_size}
use Rattle.words.specs.Bytes.{part}
use Rattle.program.specs.Program.{ret, ask, onwards, and_then, each, each_in}
use Rattle.program.specs.Layers.{low, own, lift}
use Rattle.memory.specs.Operations as memory
use Rattle.memory.specs.Sparse as sparse
use Rattle.memory.specs.WXorX as wxorx
use Rattle.machine.specs.Operations as machine
use Rattle.recordfile.specs.declared.Record.{Record}
use Rattle.recordfile.specs.declared.Record.TheVariants.{State, Registers, Source, Dirty, Bad}
use Rattle.recordfile.specs.Form.{in_form}
use Rattle.recordfile.specs.Snapshots.{Kept, SourceRun, DirtyRun, Snapshot, source_run, dirty_run, snapshot_in}
use Rattle.tracking.specs.Sources.{Data, find_data, data_of}
use Rattle.tracking.specs.Operations.{Call, MachineCall, on_memory, lengths?, drop_all! }
use Rattle.tracking.specs.Tracking.{track_pages}

-- ---- a run

-- "set flags": n pages from the first on; "flags are ORed" (reading 19)
unfoldable pub set_flags : ℕ → ℕ → ℕ → memory.Call ℕ
set_flags first n flag = each (λ p. sparse.set_flag p flag) n first

-- "store; set flags"; "Flags are set on the pages of the data, not of the run" (reading 19)
unfoldable pub store_run : ℕ → ℕ → List ℕ → memory.Call ℕ
store_run a flag bytes = and_then (wxorx.store_bytes a bytes) (set_flags (a / page_size) (length bytes / page_size) flag)

-- "store; set flags; track"
unfoldable pub store_source : ℕ → ℕ → ℕ → ℕ → List ℕ → Call ℕ
store_source a flag id offset bytes = and_then (on_memory (store_run a flag bytes)) (track_pages a (length bytes) id offset)

-- "load 6; data not whole pages 3; ..". "Data shorter than the run is accepted when it is whole pages"
unfoldable pub restore_data : Data → List ℕ → ℕ → ℕ → ℕ → ℕ → Call ℕ
restore_data d bytes a flag id offset =
    onwards (λ n. n) (cond (eqb (length bytes % page_size) 0) (store_source a flag id offset bytes) (ret 3)) d.number

-- what an item of the sources gives for a run
abbrev pub found : List ℕ → List ℕ → SourceRun → Data
found directory sources r = find_data directory (length sources) r.id r.offset r.size

-- "Source runs in turn: address unaligned 3; load 6; data not whole pages 3; store; set flags; track."
unfoldable pub restore_source : List ℕ → List ℕ → SourceRun → Call ℕ
restore_source directory sources r =
    cond (eqb (r.address % page_size) 0)
    (restore_data (found directory sources r) (data_of sources (found directory sources r)) r.address r.flag r.id r.offset)
    (ret 3)

-- "Dirty runs in turn: address unaligned 3; store; set flags."
unfoldable pub restore_dirty : DirtyRun → memory.Call ℕ
restore_dirty r = cond (eqb (r.address % page_size) 0) (store_run r.address r.flag r.content) (ret 3)

-- source runs, then dirty runs
unfoldable pub restore_runs : List ℕ → List ℕ → List SourceRun → List DirtyRun → Call ℕ
restore_runs directory sources runs dirty =
    and_then (each_in (restore_source directory sources) runs) (each_in (λ r. on_memory (restore_dirty r)) dirty)

-- the same of a record: a run's, and no other is one
abbrev pub restore_record : List ℕ → List ℕ → List ℕ → Record → Call ℕ
restore_record directory sources page_file (Source address flag id offset size) =
    restore_source directory sources (source_run address flag id offset size)
restore_record directory sources page_file (Dirty address flag pages place) =
    on_memory (restore_dirty (dirty_run address flag (part page_file (place * page_size) (pages * page_size))))
restore_record directory sources page_file (State version pc cycles maximum reservation) = ret 0
restore_record directory sources page_file (Registers first one two three four) = ret 0
restore_record directory sources page_file Bad = ret 0

-- ---- the whole

-- "Last, the reservation."
unfoldable pub restore_pages : List ℕ → List ℕ → Snapshot → Call ℕ
restore_pages directory sources s =
    and_then (restore_runs directory sources s.sources s.dirty) (on_memory (sparse.set_lr s.state.reservation))

-- "set registers, pc and pending pc, cycles, maximum"
unfoldable pub restore_numbers : Kept → List ℕ → MachineCall ℕ → MachineCall ℕ
restore_numbers k registers rest =
    ask (own (machine.registers! registers))
    (λ a. ask (own (machine.pc! k.pc))
    (λ b. ask (own machine.commit!)
    (λ c. ask (own (machine.cycles! k.cycles)) (λ d. ask (own (machine.max_cycles! k.maximum)) (λ e. rest)))))

-- "drop all tracking; set registers, ..", then the runs
unfoldable pub restore : List ℕ → List ℕ → Snapshot → MachineCall ℕ
restore directory sources s =
    ask (low (own drop_all!)) (λ a. restore_numbers s.state s.registers (lift (restore_pages directory sources s)))

-- "version 1"
unfoldable pub resume_from : List ℕ → List ℕ → Snapshot → MachineCall ℕ
resume_from directory sources s =
    ask (own machine.version?) (λ version. cond (eqb version s.state.version) (restore directory sources s) (ret 1))

-- "Resume, in order: record form 11; version 1; drop all tracking; ..", lengths (9) first
unfoldable pub resume : List ℕ → List ℕ → List ℕ → List ℕ → MachineCall ℕ
resume directory sources file page_file =
    ask (low (own lengths?))
    (λ b. cond b
    (onwards (λ n. n) (resume_from directory sources (snapshot_in file page_file)) (in_form file (length page_file)))
    (ret 9))
