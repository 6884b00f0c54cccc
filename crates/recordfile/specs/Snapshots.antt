-- The snapshot that a record file and its page file hold, and the files that a snapshot is written to.
use Rattle.std.specs.Prelude.{List, [], ◌∷◌, ◌++◌, ◌≡◌, ℕ, zero, suc, ◌+◌, ◌*◌, ◌/◌, ◌%◌, ◌^◌, ◌≤◌, ◌<◌, length, get_or}
use Rattle.bits.specs.Rounding.{page_size}
use Rattle.words.specs.Bytes.{part}
use Rattle.recordfile.specs.Words.{image}
use Rattle.recordfile.specs.Records.{words_of, records_in, versions, flag_values}
use Rattle.recordfile.specs.Form.{register_records, registers_a_record, least_records, most_records}
use Rattle.recordfile.specs.declared.Record.{Record}
use Rattle.recordfile.specs.declared.Record.TheVariants.{State, Registers, Source, Dirty, Bad}

-- "state: version .., pc, cycles, maximum, reservation"
pub record Kept : Type 0 where
  pub version : ℕ
  pub pc : ℕ
  pub cycles : ℕ
  pub maximum : ℕ
  pub reservation : ℕ

-- "source run: address, flag, id, offset, length in bytes"
pub record SourceRun : Type 0 where
  pub address : ℕ
  pub flag : ℕ
  pub id : ℕ
  pub offset : ℕ
  pub size : ℕ

-- a dirty run, with the bytes of its pages
pub record DirtyRun : Type 0 where
  pub address : ℕ
  pub flag : ℕ
  pub content : List ℕ

-- Snapshot2's fields
pub record Snapshot : Type 0 where
  pub state : Kept
  pub registers : List ℕ
  pub sources : List SourceRun
  pub dirty : List DirtyRun

abbrev pub kept : ℕ → ℕ → ℕ → ℕ → ℕ → Kept
kept version pc cycles maximum reservation =
    record { version = version; pc = pc; cycles = cycles; maximum = maximum; reservation = reservation }

abbrev pub source_run : ℕ → ℕ → ℕ → ℕ → ℕ → SourceRun
source_run address flag id offset size = record { address = address; flag = flag; id = id; offset = offset; size = size }

abbrev pub dirty_run : ℕ → ℕ → List ℕ → DirtyRun
dirty_run address flag content = record { address = address; flag = flag; content = content }

-- ---- read

abbrev pub kept_in : List Record → Kept
kept_in [] = kept 0 0 0 0 0
kept_in (State version pc cycles maximum reservation ∷ rs) = kept version pc cycles maximum reservation
kept_in (Registers first one two three four ∷ rs) = kept 0 0 0 0 0
kept_in (Source address flag id offset size ∷ rs) = kept 0 0 0 0 0
kept_in (Dirty address flag pages place ∷ rs) = kept 0 0 0 0 0
kept_in (Bad ∷ rs) = kept 0 0 0 0 0

unfoldable pub registers_in : List Record → List ℕ
registers_in [] = []
registers_in (Registers first one two three four ∷ rs) = one ∷ two ∷ three ∷ four ∷ registers_in rs
registers_in (State version pc cycles maximum reservation ∷ rs) = registers_in rs
registers_in (Source address flag id offset size ∷ rs) = registers_in rs
registers_in (Dirty address flag pages place ∷ rs) = registers_in rs
registers_in (Bad ∷ rs) = registers_in rs

unfoldable pub sources_in : List Record → List SourceRun
sources_in [] = []
sources_in (Source address flag id offset size ∷ rs) = source_run address flag id offset size ∷ sources_in rs
sources_in (State version pc cycles maximum reservation ∷ rs) = sources_in rs
sources_in (Registers first one two three four ∷ rs) = sources_in rs
sources_in (Dirty address flag pages place ∷ rs) = sources_in rs
sources_in (Bad ∷ rs) = sources_in rs

-- "The page file holds the dirty pages one after another": a run's pages stand from its place on
unfoldable pub dirty_in : List ℕ → List Record → List DirtyRun
dirty_in page_file [] = []
dirty_in page_file (Dirty address flag pages place ∷ rs) =
    dirty_run address flag (part page_file (place * page_size) (pages * page_size)) ∷ dirty_in page_file rs
dirty_in page_file (State version pc cycles maximum reservation ∷ rs) = dirty_in page_file rs
dirty_in page_file (Registers first one two three four ∷ rs) = dirty_in page_file rs
dirty_in page_file (Source address flag id offset size ∷ rs) = dirty_in page_file rs
dirty_in page_file (Bad ∷ rs) = dirty_in page_file rs

abbrev pub of_records : List ℕ → List Record → Snapshot
of_records page_file rs =
    record { state = kept_in rs; registers = registers_in rs; sources = sources_in rs; dirty = dirty_in page_file rs }

-- the snapshot that two files hold
unfoldable pub snapshot_in : List ℕ → List ℕ → Snapshot
snapshot_in file page_file = of_records page_file (records_in file)

-- ---- written

abbrev pub state_record : Kept → Record
state_record k = State k.version k.pc k.cycles k.maximum k.reservation

-- n register records from this number on
unfoldable pub register_records_of : List ℕ → ℕ → ℕ → List Record
register_records_of registers next zero = []
register_records_of registers next (suc n) =
    Registers next (get_or registers next 0) (get_or registers (next + 1) 0) (get_or registers (next + 2) 0) (get_or registers (next + 3) 0)
    ∷ register_records_of registers (next + registers_a_record) n

unfoldable pub source_records : List SourceRun → List Record
source_records [] = []
source_records (r ∷ rs) = Source r.address r.flag r.id r.offset r.size ∷ source_records rs

-- the pages of a dirty run
abbrev pub pages_of : DirtyRun → ℕ
pages_of r = length r.content / page_size

-- "Place is the sum of pages of the dirty runs before it."
unfoldable pub dirty_records : ℕ → List DirtyRun → List Record
dirty_records place [] = []
dirty_records place (r ∷ rs) = Dirty r.address r.flag (pages_of r) place ∷ dirty_records (place + pages_of r) rs

abbrev pub records_of : Snapshot → List Record
records_of s =
    state_record s.state ∷ (register_records_of s.registers 0 register_records ++ (source_records s.sources ++ dirty_records 0 s.dirty))

-- records as bytes, one after another
unfoldable pub image_of : List Record → List ℕ
image_of [] = []
image_of (r ∷ rs) = image (words_of r) ++ image_of rs

-- the record file of a snapshot
unfoldable pub file_of : Snapshot → List ℕ
file_of s = image_of (records_of s)

-- "The page file holds the dirty pages one after another"
unfoldable pub contents : List DirtyRun → List ℕ
contents [] = []
contents (r ∷ rs) = r.content ++ contents rs

unfoldable pub page_file_of : Snapshot → List ℕ
page_file_of s = contents s.dirty

-- ---- what can be written

-- a number that a word holds
abbrev pub Word : ℕ → Type 0
Word x = x < 2 ^ 64

-- every element is so
unfoldable pub Each : {A : Type 0} → (A → Type 0) → List A → Type 0
Each P [] = Unit {0}
Each P (x ∷ xs) = P x × Each P xs

pub record SourceRanged (r : SourceRun) : Type 0 where
  pub address_word : Word r.address
  pub flag_small : r.flag < flag_values
  pub id_word : Word r.id
  pub offset_word : Word r.offset
  pub size_word : Word r.size

pub record DirtyRanged (r : DirtyRun) : Type 0 where
  pub address_word : Word r.address
  pub flag_small : r.flag < flag_values
  pub whole : length r.content % page_size ≡ 0

-- a snapshot that files can hold: every number in its range, "Eight, in order" registers of four, dirty runs of whole pages, and
-- no more than "1,033 records"
pub record Ranged (s : Snapshot) : Type 0 where
  pub version_small : s.state.version < versions
  pub pc_word : Word s.state.pc
  pub cycles_word : Word s.state.cycles
  pub maximum_word : Word s.state.maximum
  pub reservation_word : Word s.state.reservation
  pub registers_are : length s.registers ≡ registers_a_record * register_records
  pub register_words : Each Word s.registers
  pub sources_ranged : Each SourceRanged s.sources
  pub dirty_ranged : Each DirtyRanged s.dirty
  pub few : least_records + (length s.sources + length s.dirty) ≤ most_records
  pub pages_word : Word (length (page_file_of s))
