-- The machines that our calls reach from fresh.
use Rattle.std.specs.Prelude.{List, ◌≡◌, ℕ, ◌<◌, length}
use Rattle.words.specs.LittleEndian.{Small}
use Rattle.memory.specs.Calls as memory
use Rattle.machine.specs.Fresh.{LentMachine, fresh}
use Rattle.machine.specs.Numbers.{general_registers}
use Rattle.machine.specs.Operations as machine
use Rattle.recordfile.specs.Records.{versions, flag_values}
use Rattle.recordfile.specs.Snapshots.{Word, Each}
use Rattle.handover.specs.Calls.{Named, round_page_up_call, round_page_down_call, get_page_indices_call, memory_call, numbers_call, load_data_call, track_pages_call, untrack_pages_call, store_bytes_call, mark_program_call, page_record_call, make_snapshot_call, resume, Given, named, clear_flag_call, fresh_call, Later, leaves}

-- ---- what a machine keeps of a call is of the code's types: a flag is a byte, a version has 32 bits, other numbers 64, there are
-- 32 registers, and files are bytes

abbrev pub TypedMemory : memory.Named → Type 0
TypedMemory (memory.init_pages_call l a size flags lead source) = flags < flag_values
TypedMemory (memory.fill_page_data_call a size lead source) = Unit {0}
TypedMemory (memory.fetch_flag_call p) = Unit {0}
TypedMemory (memory.set_flag_call p f) = f < flag_values
TypedMemory (memory.check_permission_call first last want) = Unit {0}
TypedMemory (memory.set_dirty_call first last) = Unit {0}
TypedMemory memory.memory_size_call = Unit {0}
TypedMemory memory.memory_pages_call = Unit {0}
TypedMemory (memory.store_byte_call l a n v) = Unit {0}
TypedMemory (memory.store_bytes_call l a bytes) = Unit {0}
TypedMemory (memory.store_wide_call l n a x) = Unit {0}
TypedMemory (memory.load_bytes_call a n out) = Unit {0}
TypedMemory (memory.load_wide_call n a) = Unit {0}
TypedMemory (memory.execute_load_call l n a) = Unit {0}
TypedMemory (memory.load_c_string_call a out) = Unit {0}
TypedMemory memory.get_lr_call = Unit {0}
TypedMemory (memory.set_lr_call x) = Word x

abbrev pub TypedNumbers : machine.Op → Type 0
TypedNumbers machine.registers? = Unit {0}
TypedNumbers (machine.registers! l) = (length l ≡ general_registers) × Each Word l
TypedNumbers (machine.register? i) = Unit {0}
TypedNumbers (machine.register! i x) = Word x
TypedNumbers machine.pc? = Unit {0}
TypedNumbers (machine.pc! x) = Word x
TypedNumbers machine.commit! = Unit {0}
TypedNumbers machine.version? = Unit {0}
TypedNumbers machine.cycles? = Unit {0}
TypedNumbers (machine.cycles! x) = Word x
TypedNumbers machine.max_cycles? = Unit {0}
TypedNumbers (machine.max_cycles! x) = Word x

abbrev pub TypedNamed : Named → Type 0
TypedNamed (round_page_up_call a) = Unit {0}
TypedNamed (round_page_down_call a) = Unit {0}
TypedNamed (get_page_indices_call a n) = Unit {0}
TypedNamed (memory_call c) = TypedMemory c
TypedNamed (numbers_call o) = TypedNumbers o
TypedNamed (load_data_call directory sources id offset wanted) = Unit {0}
TypedNamed (track_pages_call start size id offset) = Word id
TypedNamed (untrack_pages_call start size) = Unit {0}
TypedNamed (store_bytes_call directory sources a id offset wanted size_at) = Word id
TypedNamed (mark_program_call actions id offset) = Word id
TypedNamed (page_record_call p) = Unit {0}
TypedNamed (make_snapshot_call file pages) = Unit {0}
TypedNamed (resume directory sources file page_file) = Small file × Word (length page_file)

abbrev pub Typed : Given → Type 0
Typed (named c) = TypedNamed c
Typed (clear_flag_call p f) = f < flag_values
Typed (fresh_call size version maximum) = (version < versions) × Word maximum

-- ---- reached

-- "reached from fresh by our calls": storage of any content was lent to a fresh machine, which answered 0, and these calls were made
-- on it in turn
pub record Reached (m : LentMachine) : Type 0 where
  pub slots : List ℕ
  pub flags : List ℕ
  pub area : List ℕ
  pub records : List ℕ
  pub size : ℕ
  pub version : ℕ
  pub maximum : ℕ
  pub version_small : version < versions
  pub maximum_word : Word maximum
  pub started : (fresh slots flags area records size version maximum).0 ≡ 0
  pub calls : List Given
  pub later : Each Later calls
  pub typed : Each Typed calls
  pub left : leaves calls (fresh slots flags area records size version maximum).1 ≡ m
