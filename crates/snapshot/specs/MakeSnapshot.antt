-- A snapshot as a program: what it asks of a machine, and the files that it writes.
use Rattle.std.specs.Prelude.{Bool, false, cond, List, [], ℕ, ◌*◌, ◌/◌, length, leb}
use Rattle.bits.specs.Rounding.{page_size}
use Rattle.program.specs.Program.{ret, ask, bind, perform, onwards, after, each, each_in, collect, collect_in}
use Rattle.program.specs.Layers.{low, own, lift}
use Rattle.memory.specs.Operations as memory
use Rattle.machine.specs.Operations as machine
use Rattle.recordfile.specs.Snapshots.{Kept, SourceRun, DirtyRun, Snapshot, kept, dirty_run, records_of, file_of, page_file_of}
use Rattle.tracking.specs.declared.records.Tracking.{Tracking}
use Rattle.tracking.specs.Operations.{Call, MachineCall, fitting, entry?}
use Rattle.snapshot.specs.Runs.{Run, dirty_runs, source_runs}

-- ---- what is taken of the pages

-- a number of document 01's table, and the runs
pub record Taken : Type 0 where
  pub number : ℕ
  pub sources : List SourceRun
  pub dirty : List DirtyRun

abbrev pub taken : List SourceRun → List DirtyRun → Taken
taken sources dirty = record { number = 0; sources = sources; dirty = dirty }

abbrev pub not_taken : ℕ → Taken
not_taken n = record { number = n; sources = []; dirty = [] }

-- a page's flag
unfoldable pub ask_flag : ℕ → Call ℕ
ask_flag p = ask (low (memory.flag? p)) (λ f. ret f.value)

-- where a page's bytes come from
unfoldable pub ask_entry : ℕ → Call Tracking
ask_entry p = perform (own (entry? p))

-- "a page's slot number met that isn't in use": "a snapshot meets those of the dirty pages alone" (reading 6)
unfoldable pub meet_run : Run → Call ℕ
meet_run r = each (λ p. perform (low (memory.meet? p))) r.pages r.page

-- a dirty run with the bytes of its pages
unfoldable pub read_run : Run → Call DirtyRun
read_run r =
    ask (low (memory.bytes? (r.page * page_size) (r.pages * page_size))) (λ l. ret (dirty_run (r.page * page_size) r.flag l))

unfoldable pub take_runs : List Run → List SourceRun → Call Taken
take_runs runs sources =
    after not_taken (each_in meet_run runs) (bind (collect_in read_run runs) (λ dirty. ret (taken sources dirty)))

-- lengths (9), then "a page's slot number met that isn't in use" (9), of the dirty pages
unfoldable pub take_pages : Call Taken
take_pages =
    fitting not_taken
    (ask (low memory.size?)
    (λ n. bind (collect ask_flag (n / page_size) 0)
    (λ flags. bind (collect ask_entry (n / page_size) 0)
    (λ entries. take_runs (dirty_runs 0 flags) (source_runs 0 entries)))))

-- ---- what is taken of the machine's numbers

-- "state: version .., pc, cycles, maximum, reservation"; "A snapshot has the committed pc" (reading 23)
unfoldable pub ask_kept : MachineCall Kept
ask_kept =
    ask (own machine.version?)
    (λ version. ask (own machine.pc?)
    (λ pc. ask (own machine.cycles?)
    (λ cycles. ask (own machine.max_cycles?)
    (λ maximum. ask (low (low memory.lr?)) (λ reservation. ret (kept version pc cycles maximum reservation))))))

-- ---- the files

-- a number of document 01's table, "the number of records and of pages", and the bytes of both files; a refusal writes nothing
pub record Made : Type 0 where
  pub number : ℕ
  pub records : ℕ
  pub pages : ℕ
  pub file : List ℕ
  pub body : List ℕ

abbrev pub not_made : ℕ → Made
not_made n = record { number = n; records = 0; pages = 0; file = []; body = [] }

-- both outputs hold what is to be written
unfoldable pub holds : ℕ → ℕ → Snapshot → Bool
holds file pages s = cond (leb (length (file_of s)) file) (leb (length (page_file_of s)) pages) false

-- "Buffers too short: 8, nothing written; else the answer is the number of records and of pages"
unfoldable pub laid_out : ℕ → ℕ → Snapshot → Made
laid_out file pages s =
    cond (holds file pages s)
    (record {
      number = 0;
      records = length (records_of s);
      pages = length (page_file_of s) / page_size;
      file = file_of s;
      body = page_file_of s;
    })
    (not_made 8)

-- the snapshot of what was taken
abbrev pub snapshot_of : Kept → List ℕ → Taken → Snapshot
snapshot_of k registers t = record { state = k; registers = registers; sources = t.sources; dirty = t.dirty }

-- a snapshot into outputs of so many bytes
unfoldable pub make_snapshot : ℕ → ℕ → MachineCall Made
make_snapshot file pages =
    bind (lift take_pages)
    (λ t. onwards not_made
    (bind ask_kept (λ k. ask (own machine.registers?) (λ registers. ret (laid_out file pages (snapshot_of k registers t)))))
    t.number)
