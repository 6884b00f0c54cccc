-- Two hosts: a machine that is stopped, a fresh one, what passes between them, and when they agree.
use Rattle.std.specs.Prelude.{List, ◌≡◌, true, ℕ, ◌*◌, length}
use Rattle.std.specs.Int.Bits.{bit_and}
use Rattle.bits.specs.Rounding.{page_size}
use Rattle.words.specs.Bytes.{part, written}
use Rattle.memory.specs.Pages.{dirty}
use Rattle.memory.specs.Storage.{byte_at}
use Rattle.memory.specs.View.{Roomy}
use Rattle.machine.specs.Fresh.{LentMachine, fresh}
use Rattle.machine.specs.Numbers.{machine_of}
use Rattle.tracking.specs.Records.{record_at}
use Rattle.recordfile.specs.Words.{record_bytes}
use Rattle.recordfile.specs.Snapshots.{Snapshot, Word, Each}
use Rattle.snapshot.specs.Runs.{flag_at}
use Rattle.snapshot.specs.MakeSnapshot.{Made, holds}
use Rattle.snapshot.specs.Answers.{snapshot_now}
use Rattle.handover.specs.Calls.{Given, named, make_snapshot_call, resume, Careful, answer, answers}
use Rattle.handover.specs.Sound.{Sound}

-- "Take a sound machine (01 says when) with a page slot for every page and no pc change pending."
pub record Stopped (directory sources : List ℕ) (m : LentMachine) : Type 0 where
  pub sound : Sound directory sources m
  pub roomy : Roomy m.0.0
  pub settled : m.1.next_pc ≡ m.1.pc

-- the snapshot of a machine as it is now; "outputs that are long enough" hold it
abbrev pub machine_snapshot : LentMachine → Snapshot
machine_snapshot m = snapshot_now m.0.0.slots m.0.0.flags m.0.0.area m.0.1 (machine_of m.1 m.0.0.memory)

abbrev pub LongEnough : LentMachine → List ℕ → List ℕ → Type 0
LongEnough m file pages = holds (length file) (length pages) (machine_snapshot m) ≡ true

-- "a fresh machine of the same version, size and slots"
pub record FreshHost (m n : LentMachine) : Type 0 where
  pub slots : List ℕ
  pub flags : List ℕ
  pub area : List ℕ
  pub records : List ℕ
  pub maximum : ℕ
  pub maximum_word : Word maximum
  pub made : fresh slots flags area records m.0.0.memory.size m.1.version maximum ≡ (0, n)
  pub as_many_slots : length area ≡ length m.0.0.area

-- "The two hosts then hold equal bytes, flags, registers, pc, cycle counts and reservation, and the same source entry for each
-- clean page."
pub record Agree (m n : LentMachine) : Type 0 where
  pub bytes : (a : ℕ) → byte_at n.0.0 a ≡ byte_at m.0.0 a
  pub flags : (p : ℕ) → flag_at n.0.0.flags p ≡ flag_at m.0.0.flags p
  -- registers, pc and pending pc, version, cycles and their maximum
  pub numbers : n.1 ≡ m.1
  pub reservation : n.0.0.memory.reservation ≡ m.0.0.memory.reservation
  pub size : n.0.0.memory.size ≡ m.0.0.memory.size
  pub entries : (p : ℕ) → bit_and (flag_at m.0.0.flags p) dirty ≡ 0 → record_at n.0.1 p ≡ record_at m.0.1 p

-- "Give both .. the same further calls, none clearing the dirty flag directly or making anything fresh again: every answer is equal,
-- later snapshots included."
abbrev pub AnswerAlike : LentMachine → LentMachine → Type 0
AnswerAlike m n = (calls : List Given) → Each Careful calls → answers calls n ≡ answers calls m

-- "Snapshot it into outputs ..": what is answered and left, and the two files that then stand at the front of the outputs
module _ (m : LentMachine) (file pages : List ℕ) where
  abbrev pub snapped : Made × LentMachine
  snapped = answer (named (make_snapshot_call file pages)) m

  abbrev pub record_file_left : List ℕ
  record_file_left = part (written file 0 snapped.0.file) 0 (snapped.0.records * record_bytes)

  abbrev pub page_file_left : List ℕ
  page_file_left = part (written pages 0 snapped.0.body) 0 (snapped.0.pages * page_size)

-- ".. and resume on a fresh machine .., with the same sources"
abbrev pub resumed : List ℕ → List ℕ → LentMachine → LentMachine → List ℕ → List ℕ → ℕ × LentMachine
resumed directory sources m n file pages =
    answer (named (resume directory sources (record_file_left m file pages) (page_file_left m file pages))) n
