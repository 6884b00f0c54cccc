-- Records written one after another into a file, and the bytes of a dirty run into a page file.
use mathlib.Core.Path.{◌≡◌, refl, sym, ap, ◌∙◌}
use mathlib.Core.Bool.{true}
use mathlib.Core.List.{List, [], ◌∷◌, ◌++◌, append-nil}
use Prim.Native.Nat.{ℕ, suc, ◌+◌, ◌-◌, ◌*◌, ◌/◌, ◌≤◌, ◌<◌}
use native.Mathlib.Omega.{arith}
use lib.ListN.{length, get_or, take, drop, drop_of_length-le}
use lib.Seq.{drop-drop}
use borrow.Author.Tests.{lt-ltb}
use Rattle.machine.specs.declared.Machine.{Machine}
use Rattle.words.specs.Bytes.{part, written}
use Rattle.bits.specs.Rounding.{page_size}
use Rattle.program.specs.Program.{run, perform}
use Rattle.memory.specs.declared.Memory.{Memory}
use Rattle.memory.specs.Storage.{State, Fitting, state_of, byte_in, span}
use Rattle.memory.specs.Operations as memory-op
use Rattle.memory.specs.Sparse.{meets, reach, load_bytes, Output}
use Rattle.memory.specs.Answers.{wrote, laid}
use Rattle.memory.proofs.Lengths.{fits-yes}
use Rattle.memory.proofs.Loads.{reach-fine, bytes-done}
use Rattle.memory.proofs.Span.{length-span}
use Rattle.words.proofs.Patch.{length_part}
use Rattle.words.proofs.Written.{length-written, written-fits, written_next, written_none}
use Rattle.recordfile.specs.declared.Record.{Record}
use Rattle.recordfile.specs.declared.Record.TheVariants.{Registers, Dirty}
use Rattle.recordfile.specs.Words.{record_bytes, image}
use Rattle.recordfile.specs.Records.{words_of, encoded}
use Rattle.recordfile.specs.Form.{least_records, register_records, registers_a_record}
use Rattle.recordfile.specs.Snapshots.{state_record, register_records_of, dirty_records, image_of}
use Rattle.recordfile.proofs.FileRecords.{length_record}
use Rattle.recordfile.proofs.SnapshotRecords.{length_register_records}
use Rattle.snapshot.specs.Runs.{a_run}
use Rattle.snapshot.specs.Answers.{kept_of, head_records, met_run, read_out}
use Rattle.snapshot.proofs.TakenNow.{each-met}

-- ---- records in turn

-- a record that finds room
encoded-there : (file : List ℕ) (i : ℕ) (r : Record) → (i + 1) * record_bytes ≤ length file
    → encoded file i r ≡ written file (i * record_bytes) (image_of (r ∷ []))
unfolding encoded image_of
encoded-there file i r h = rw (lt-ltb i (length file / record_bytes) (omega arith), append-nil)

-- a file in which `whole` is to stand from a record on: `left` is still to be written, from record `at` on
pub record Recording (file₀ : List ℕ) (from : ℕ) (whole : List Record) (file : List ℕ) (at : ℕ) (left : List Record) : Type 0 where
  pub filed : written file (at * record_bytes) (image_of left) ≡ written file₀ (from * record_bytes) (image_of whole)
  pub kept : length file ≡ length file₀
  pub room : (at + length left) * record_bytes ≤ length file₀

pub recording_first : (file : List ℕ) (from : ℕ) (whole : List Record) → (from + length whole) * record_bytes ≤ length file
    → Recording file from whole file from whole
recording_first file from whole h = record { filed = refl; kept = refl; room = h }

module _ {file₀ : List ℕ} {from : ℕ} {whole : List Record} {file : List ℕ} {at : ℕ} where
  -- a record is written
  pub recording_more : (r : Record) (left : List Record) → Recording file₀ from whole file at (r ∷ left) → (now : List ℕ)
      → now ≡ written file (at * record_bytes) (image_of (r ∷ [])) → Recording file₀ from whole now (at + 1) left
  unfolding image_of
  recording_more r left g now e =
      let h : (at + suc (length left)) * record_bytes ≤ length file₀ = g.room in
      let w : now ≡ written file (at * record_bytes) (image (words_of r)) = rw append-nil at e in
      let z : (at + 1) * record_bytes ≡ at * record_bytes + length (image (words_of r)) = rw (length_record r) (omega arith) in
      record {
        filed = rw (z, w, written_next file (image (words_of r)) (image_of left) (at * record_bytes)) g.filed;
        kept = rw (w, length-written file (image (words_of r)) (at * record_bytes)) g.kept;
        room = omega arith;
      }

  pub recording_next : (r : Record) (left : List Record) → Recording file₀ from whole file at (r ∷ left) → (now : List ℕ)
      → now ≡ encoded file at r → Recording file₀ from whole now (at + 1) left
  recording_next r left g now e =
      let h : (at + suc (length left)) * record_bytes ≤ length file₀ = g.room in
      let k : length file ≡ length file₀ = g.kept in
      recording_more r left g now (e ∙ encoded-there file at r (omega arith))

  -- none is left
  pub recording_done : Recording file₀ from whole file at [] → file ≡ written file₀ (from * record_bytes) (image_of whole)
  unfolding image_of
  recording_done g = sym (written_none file (at * record_bytes)) ∙ g.filed

-- ---- the register records

-- those from record i on are left
pub record WritingRegisters (registers file₀ file : List ℕ) (i : ℕ) : Type 0 where
  pub in_all : i ≤ register_records
  pub recorded :
      Recording
      file₀
      1
      (register_records_of registers 0 register_records)
      file
      (i + 1)
      (register_records_of registers (i * registers_a_record) (register_records - i))

module _ (registers file₀ : List ℕ) where
  pub registers_first : least_records * record_bytes ≤ length file₀ → WritingRegisters registers file₀ file₀ 0
  registers_first h =
      record {
        in_all = omega arith;
        recorded = recording_first file₀ 1 _ (rw (length_register_records registers 0 register_records) (omega arith));
      }

  module _ (file : List ℕ) (i : ℕ) (g : WritingRegisters registers file₀ file i) where
    pub registers_next : i < register_records → (now : List ℕ)
        → now ≡ encoded file (i + 1)
        (Registers
        (i * registers_a_record)
        (get_or registers (i * registers_a_record) 0)
        (get_or registers (i * registers_a_record + 1) 0)
        (get_or registers (i * registers_a_record + 2) 0)
        (get_or registers (i * registers_a_record + 3) 0))
        → WritingRegisters registers file₀ now (i + 1)
    unfolding register_records_of
    registers_next h now e =
        let z : register_records - i ≡ suc (register_records - (i + 1)) = omega arith in
        let k : (i + 1) * registers_a_record ≡ i * registers_a_record + registers_a_record = omega arith in
        record {
          in_all = omega arith;
          recorded = rw k (recording_next _ _ (rw z at g.recorded) now e);
        }

    pub registers_done : register_records ≤ i
        → file ≡ written file₀ record_bytes (image_of (register_records_of registers 0 register_records))
    unfolding register_records_of
    registers_done h =
        let z : register_records - i ≡ 0 = omega arith in
        recording_done (rw z at g.recorded)

-- the state record, then those
pub head_written : (m : Machine) (file state now : List ℕ) → least_records * record_bytes ≤ length file
    → state ≡ encoded file 0 (state_record (kept_of m))
    → now ≡ written state record_bytes (image_of (register_records_of m.registers 0 register_records))
    → now ≡ written file 0 (image_of (head_records m))
unfolding image_of
head_written m file state now h e q =
    let r : Record = state_record (kept_of m) in
    let rs : List ℕ = image_of (register_records_of m.registers 0 register_records) in
    let w : state ≡ written file 0 (image (words_of r)) = rw append-nil at (e ∙ encoded-there file 0 r (omega arith)) in
    let z : record_bytes ≡ 0 + length (image (words_of r)) = rw (length_record r) in
    q ∙ rw w (ap (λ (x : ℕ). written (written file 0 (image (words_of r))) x rs) z ∙ written_next file (image (words_of r)) rs 0)

-- ---- a dirty run

-- as many bytes as a list has take its place
written-whole : (s l : List ℕ) → length l ≡ length s → written s 0 l ≡ l
written-whole s l e =
    let d : drop (0 + length l) s ≡ [] = (let y : length s ≤ 0 + length l = omega arith in drop_of_length-le s y) in
    written-fits s l 0 (omega arith) ∙ rw (d, append-nil)

module _ (slots area : List ℕ) (page flag count : ℕ) where
  -- its bytes, and how many pages they are
  abbrev content : List ℕ
  content = span (byte_in slots area) (page * page_size) (count * page_size)

  pub length-content : length content ≡ count * page_size
  length-content = length-span (byte_in slots area) (count * page_size) (page * page_size)

  pub pages-content : length content / page_size ≡ count
  pages-content = rw length-content (omega arith)

  -- its record
  pub run_filed : (file now : List ℕ) (at place : ℕ) → (at + 1) * record_bytes ≤ length file
      → now ≡ encoded file at (Dirty (page * page_size) flag count place)
      → now ≡ written file (at * record_bytes) (image_of (dirty_records place (read_out slots area (a_run page flag count) ∷ [])))
  unfolding dirty_records
  run_filed file now at place h e = rw pages-content (e ∙ encoded-there file at _ h)

  module _ (flags : List ℕ) (memory : Memory) (fit : Fitting (length slots) (length flags) (length area) memory)
      (inside : page + count ≤ length slots) (some : 0 < count) (all_met : met_run slots memory.used count page ≡ 0) where
    abbrev state : State
    state = state_of slots flags area memory

    -- a load of them meets its pages
    met_in_turn : (0, state) ≡ run memory-op.does (meets (page * page_size) (count * page_size)) state
    unfolding run meets
    met_in_turn =
        let a : page * page_size / page_size ≡ page = omega arith in
        let n : (page * page_size + count * page_size - 1) / page_size + 1 - page ≡ count = omega arith in
        rw (a, n)
        (sym
        (each-met memory-op.does state slots memory.used (λ p. perform (memory-op.meet? p)) (λ p. refl) count page
        ∙ ap {B = ℕ × State} (λ (k : ℕ). (k, state)) all_met))

    -- and lays them at the front of the output
    loaded : (out now : List ℕ) (k : ℕ) → count * page_size ≤ length out
        → wrote k 0 now state ≡ laid out (run memory-op.does (load_bytes (page * page_size) (count * page_size) (length out)) state)
        → now ≡ written out 0 content
    loaded out now k h e =
        let z : memory.size / page_size ≡ length slots = sym fit.slots_are in
        let r : (0, state) ≡ run memory-op.does (reach (page * page_size) (count * page_size) (length out)) state =
        reach-fine state (page * page_size) (count * page_size) (length out) (omega arith) (omega arith) 0 true state met_in_turn refl refl h in
        let d = bytes-done
        state
        (page * page_size)
        (count * page_size)
        (length out)
        out
        true
        (sym (fits-yes (length slots) (length flags) (length area) memory fit))
        refl
        (λ e. omega arith)
        0
        true
        r
        refl
        (written out 0 content)
        refl
        refl in
        ap (λ (x : Output × State). x.0.bytes) (e ∙ sym d)

    -- in the part of the page file that was lent for them
    pub run_laid : (pages now : List ℕ) (place k : ℕ) → (place + count) * page_size ≤ length pages
        → wrote k 0 now state ≡ laid
        (part pages (place * page_size) (place * page_size + count * page_size - place * page_size))
        (run memory-op.does
        (load_bytes
        (page * page_size)
        (count * page_size)
        (length (part pages (place * page_size) (place * page_size + count * page_size - place * page_size))))
        state)
        → take (place * page_size) pages
        ++ (now ++ drop (place * page_size + count * page_size - place * page_size) (drop (place * page_size) pages))
        ≡ written pages (place * page_size) content
    run_laid pages now place k h e =
        let y : place * page_size + count * page_size - place * page_size ≡ count * page_size = omega arith in
        let out : List ℕ = part pages (place * page_size) (place * page_size + count * page_size - place * page_size) in
        let l : length out ≡ count * page_size = rw y (length_part pages (place * page_size) (count * page_size) (omega arith)) in
        let c : length content ≡ count * page_size = length-content in
        let w : now ≡ content = loaded out now k (omega arith) e ∙ written-whole out content (omega arith) in
        rw (w, y, drop-drop (count * page_size) (place * page_size) pages)
        (rw c at (sym (written-fits pages content (place * page_size) (omega arith))))
