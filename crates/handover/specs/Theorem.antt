-- THE HANDOVER THEOREM: demand 3 of the mission, and the files of its demand 2. proofs/Theorem.antt proves it; docs/THEOREM.md says
-- it in plain words.
use Rattle.std.specs.Prelude.{List, ◌≡◌, ℕ, length}
use Rattle.words.specs.LittleEndian.{Small}
use Rattle.memory.specs.View.{Roomy}
use Rattle.machine.specs.Fresh.{LentMachine}
use Rattle.recordfile.specs.Form.{in_form}
use Rattle.recordfile.specs.Snapshots.{snapshot_in, file_of, page_file_of}
use Rattle.handover.specs.Reached.{Reached}
use Rattle.handover.specs.Hosts.{Stopped, FreshHost, LongEnough, machine_snapshot, snapped, record_file_left, page_file_left, resumed, Agree, AnswerAlike}

-- what comes of a machine m, stopped, and a fresh machine n, with the sources and the outputs lent for two files
pub record HandedOver (directory sources : List ℕ) (m n : LentMachine) (file pages : List ℕ) : Type 0 where
  -- "Snapshot it into outputs that are long enough": it is done, and the machine is as it was
  pub snapshot_done : (snapped m file pages).0.number ≡ 0
  pub first_unchanged : (snapped m file pages).1 ≡ m
  -- "Resume succeeds."
  pub resume_done : (resumed directory sources m n file pages).0 ≡ 0
  -- "The two hosts then hold equal bytes, flags, registers, pc, cycle counts and reservation, and the same source entry for each
  -- clean page."
  pub agree : Agree m (resumed directory sources m n file pages).1
  -- "Give both .. the same further calls ..: every answer is equal, later snapshots included."
  pub answer_alike : AnswerAlike m (resumed directory sources m n file pages).1
  -- and the second host can be stopped and hand over in its turn
  pub stopped_again : Stopped directory sources (resumed directory sources m n file pages).1

-- what the files of a snapshot are
pub record ReadsBack (m : LentMachine) (file pages : List ℕ) : Type 0 where
  pub record_file : record_file_left m file pages ≡ file_of (machine_snapshot m)
  pub page_file : page_file_left m file pages ≡ page_file_of (machine_snapshot m)
  pub file_formed : in_form (record_file_left m file pages) (length (page_file_left m file pages)) ≡ 0
  pub same_snapshot : snapshot_in (record_file_left m file pages) (page_file_left m file pages) ≡ machine_snapshot m

pub record Theorem : Type 0 where
  -- "Take a sound machine (01 says when) with a page slot for every page and no pc change pending. Snapshot it into outputs that are
  -- long enough and resume on a fresh machine of the same version, size and slots, with the same sources."
  pub handover : (directory sources : List ℕ) (m n : LentMachine) (file pages : List ℕ) → Stopped directory sources m → FreshHost m n
      → LongEnough m file pages → HandedOver directory sources m n file pages
  -- any two machines that agree so, "each with its whole storage lent as before"
  pub further : (m n : LentMachine) → Reached m → Reached n → Roomy m.0.0 → Roomy n.0.0 → Agree m n → AnswerAlike m n
  -- "The record files we add read back to the same snapshot": those of every snapshot that our calls write
  pub read_back : (m : LentMachine) → Reached m → (file pages : List ℕ) → (snapped m file pages).0.number ≡ 0 → ReadsBack m file pages
  -- "and an accepted file written again gives the same bytes."
  pub written_again : (file page_file : List ℕ) → Small file → in_form file (length page_file) ≡ 0
      → (file_of (snapshot_in file page_file) ≡ file) × (page_file_of (snapshot_in file page_file) ≡ page_file)
