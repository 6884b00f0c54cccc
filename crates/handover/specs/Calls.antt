-- The public calls on a machine as data: what each is given, what it answers, and its meaning, by the definitions that its
-- promise cites.
use Rattle.std.specs.Prelude.{List, [], ◌∷◌, ◌≡◌, ℕ, ◌<◌, length}
use Rattle.std.specs.Int.Bits.{bit_and}
use Rattle.bits.specs.Rounding.{rounded_up, rounded_down}
use Rattle.words.specs.Bytes.{written}
use Rattle.program.specs.Program.{ret, perform, run}
use Rattle.program.specs.Layers.{own, lift}
use Rattle.memory.specs.Pages.{dirty, PageIndices, page_indices}
use Rattle.memory.specs.Sparse as sparse
use Rattle.memory.specs.Calls as memory
use Rattle.machine.specs.Fresh.{Tracked, LentMachine, fresh}
use Rattle.machine.specs.Operations as machine
use Rattle.recordfile.specs.Records.{flag_values}
use Rattle.tracking.specs.declared.records.Tracking.{Tracking}
use Rattle.tracking.specs.declared.records.Tracking.TheVariants.{Untracked}
use Rattle.tracking.specs.Sources.{Data, find_data, data_of}
use Rattle.tracking.specs.Operations.{MachineCall, machine_does, on_memory}
use Rattle.tracking.specs.Tracking.{Stored, Recorded, track_pages, untrack_pages, store_bytes, mark_program, page_record}
use Rattle.snapshot.specs.MakeSnapshot.{Made, make_snapshot}
use Rattle.snapshot.specs.Resume as snapshot

-- every public call on a machine but fresh and clear_flag, and those that are lent no machine. A call on the machine's memory is
-- made on its field, which `memory` hands out and `with_memory` takes back; storage_fits, records_fit and lengths_fit ask lengths
-- alone, the calls on records and files of `recordfile` and `listing` are given no machine, and the leaves meet, entry_at and
-- untrack_all are one operation each
pub data Named : Type 0 where
  -- an address; an address and a size
  round_page_up_call : ℕ → Named
  round_page_down_call : ℕ → Named
  get_page_indices_call : ℕ → ℕ → Named
  -- on the machine's memory, and on its numbers
  memory_call : memory.Named → Named
  numbers_call : machine.Op → Named
  -- directory, source bytes, id, offset, length
  load_data_call : List ℕ → List ℕ → ℕ → ℕ → ℕ → Named
  -- start, length, id, offset
  track_pages_call : ℕ → ℕ → ℕ → ℕ → Named
  untrack_pages_call : ℕ → ℕ → Named
  -- directory, source bytes, address, id, offset, length, size address
  store_bytes_call : List ℕ → List ℕ → ℕ → ℕ → ℕ → ℕ → ℕ → Named
  -- actions, id, offset
  mark_program_call : List ℕ → ℕ → ℕ → Named
  page_record_call : ℕ → Named
  -- the outputs for the record file and for the page file
  make_snapshot_call : List ℕ → List ℕ → Named
  -- directory, source bytes, record file, page file
  resume : List ℕ → List ℕ → List ℕ → List ℕ → Named

-- what is loaded: the place, and the part of the source bytes
pub record Loaded : Type 0 where
  pub place : Data
  pub bytes : List ℕ

abbrev pub loaded : List ℕ → Data → Loaded
loaded sources d = record { place = d; bytes = data_of sources d }

abbrev pub Answers : Named → Type 0
Answers (round_page_up_call a) = ℕ
Answers (round_page_down_call a) = ℕ
Answers (get_page_indices_call a n) = PageIndices
Answers (memory_call c) = memory.Answers c
Answers (numbers_call o) = machine.Reply o
Answers (load_data_call directory sources id offset wanted) = Loaded
Answers (track_pages_call start size id offset) = ℕ
Answers (untrack_pages_call start size) = ℕ
Answers (store_bytes_call directory sources a id offset wanted size_at) = Stored
Answers (mark_program_call actions id offset) = ℕ
Answers (page_record_call p) = Recorded
Answers (make_snapshot_call file pages) = Made
Answers (resume directory sources file page_file) = ℕ

abbrev pub program : (c : Named) → MachineCall (Answers c)
program (round_page_up_call a) = ret (rounded_up a)
program (round_page_down_call a) = ret (rounded_down a)
program (get_page_indices_call a n) = ret (page_indices a n)
program (memory_call c) = lift (on_memory (memory.program c))
program (numbers_call o) = perform (own o)
program (load_data_call directory sources id offset wanted) =
    ret (loaded sources (find_data directory (length sources) id offset wanted))
program (track_pages_call start size id offset) = lift (track_pages start size id offset)
program (untrack_pages_call start size) = lift (untrack_pages start size)
program (store_bytes_call directory sources a id offset wanted size_at) = lift (store_bytes directory sources a id offset wanted size_at)
program (mark_program_call actions id offset) = lift (mark_program actions id offset)
program (page_record_call p) = lift (page_record p)
program (make_snapshot_call file pages) = make_snapshot (length file) (length pages)
program (resume directory sources file page_file) = snapshot.resume directory sources file page_file

-- ---- calls in turn

-- one of the calls above, a flag cleared, or the machine's storage lent for a fresh machine of this size, version and maximum
pub data Given : Type 0 where
  named : Named → Given
  clear_flag_call : ℕ → ℕ → Given
  fresh_call : ℕ → ℕ → ℕ → Given

abbrev pub AnswerTo : Given → Type 0
AnswerTo (named c) = Answers c
AnswerTo (clear_flag_call p f) = ℕ
AnswerTo (fresh_call size version maximum) = ℕ

-- a flag cleared in a memory, beside records and numbers that stay
abbrev pub clear_flag : ℕ → ℕ → Tracked → ℕ × Tracked
clear_flag p f m = ((sparse.clear_flag p f m.0).0, ((sparse.clear_flag p f m.0).1, m.1))

-- what a call answers and leaves
abbrev pub answer : (g : Given) → LentMachine → AnswerTo g × LentMachine
answer (named c) m = run machine_does (program c) m
answer (clear_flag_call p f) m = ((clear_flag p f m.0).0, ((clear_flag p f m.0).1, m.1))
answer (fresh_call size version maximum) m = fresh m.0.0.slots m.0.0.flags m.0.0.area m.0.1 size version maximum

-- a call that makes nothing fresh
abbrev pub Later : Given → Type 0
Later (named c) = Unit {0}
Later (clear_flag_call p f) = Unit {0}
Later (fresh_call size version maximum) = ⊥

-- "none clearing the dirty flag directly or making anything fresh again": of the bits of a flag, a byte, dirty is not one that it
-- clears
abbrev pub Careful : Given → Type 0
Careful (named c) = Unit {0}
Careful (clear_flag_call p f) = (f < flag_values) × (bit_and f dirty ≡ 0)
Careful (fresh_call size version maximum) = ⊥

-- an answer as a line: a number of document 01's table, the values, the bytes that are handed back or laid into an output, what
-- the outputs hold afterwards, and what is tracked of a page. A call that answers a value alone is done
pub record Told : Type 0 where
  pub number : ℕ
  pub values : List ℕ
  pub parts : List (List ℕ)
  pub outputs : List (List ℕ)
  pub tracking : Tracking

abbrev pub line : ℕ → List ℕ → List (List ℕ) → List (List ℕ) → Told
line n values parts outputs = record { number = n; values = values; parts = parts; outputs = outputs; tracking = Untracked }

-- a number alone, and values
abbrev pub numbers : ℕ → List ℕ → Told
numbers n values = line n values [] []

-- a machine's own numbers
abbrev pub said_numbers : (o : machine.Op) → machine.Reply o → Told
said_numbers machine.registers? l = numbers 0 l
said_numbers (machine.registers! l) n = numbers n []
said_numbers (machine.register? i) v = numbers v.number (v.value ∷ [])
said_numbers (machine.register! i x) n = numbers n []
said_numbers machine.pc? x = numbers 0 (x ∷ [])
said_numbers (machine.pc! x) n = numbers n []
said_numbers machine.commit! n = numbers n []
said_numbers machine.version? x = numbers 0 (x ∷ [])
said_numbers machine.cycles? x = numbers 0 (x ∷ [])
said_numbers (machine.cycles! x) n = numbers n []
said_numbers machine.max_cycles? x = numbers 0 (x ∷ [])
said_numbers (machine.max_cycles! x) n = numbers n []

abbrev pub said : (c : Named) → Answers c → Told
said (round_page_up_call a) x = numbers 0 (x ∷ [])
said (round_page_down_call a) x = numbers 0 (x ∷ [])
said (get_page_indices_call a n) x = numbers x.number (x.first ∷ x.last ∷ [])
said (memory_call c) x =
    line (memory.said c x).number ((memory.said c x).value ∷ []) ((memory.said c x).bytes ∷ []) (memory.left c x)
said (numbers_call o) x = said_numbers o x
said (load_data_call directory sources id offset wanted) d =
    line d.place.number (d.place.start ∷ d.place.count ∷ d.place.full ∷ []) (d.bytes ∷ []) []
said (track_pages_call start size id offset) n = numbers n []
said (untrack_pages_call start size) n = numbers n []
said (store_bytes_call directory sources a id offset wanted size_at) x = numbers x.number (x.stored ∷ x.full ∷ [])
said (mark_program_call actions id offset) n = numbers n []
said (page_record_call p) x =
    record { number = x.number; values = x.page ∷ []; parts = []; outputs = []; tracking = x.tracking }
said (make_snapshot_call file pages) x =
    line x.number (x.records ∷ x.pages ∷ []) (x.file ∷ x.body ∷ []) (written file 0 x.file ∷ written pages 0 x.body ∷ [])
said (resume directory sources file page_file) n = numbers n []

abbrev pub told : (g : Given) → AnswerTo g → Told
told (named c) x = said c x
told (clear_flag_call p f) n = numbers n []
told (fresh_call size version maximum) n = numbers n []

-- what calls answer one after another, and what they leave
unfoldable pub answers : List Given → LentMachine → List Told
answers [] m = []
answers (g ∷ gs) m = told g (answer g m).0 ∷ answers gs (answer g m).1

unfoldable pub leaves : List Given → LentMachine → LentMachine
leaves [] m = m
leaves (g ∷ gs) m = leaves gs (answer g m).1
