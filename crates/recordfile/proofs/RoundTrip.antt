-- The file statement, both ways: an accepted file written again gives the same bytes, and a snapshot that is written reads back.
use mathlib.Core.Path.{◌≡◌, refl, sym, ap, ◌∙◌}
use mathlib.Core.Bool.{Bool, true, false, cond}
use mathlib.Core.List.{List}
use Prim.Native.Nat.{ℕ, ◌+◌, ◌*◌, ◌/◌, ◌%◌, ◌≤◌}
use native.Mathlib.Omega.{arith}
use lib.ListN.{length}
use lib.Dec.{eqb, leb}
use borrow.Author.Tests.{eqb-true, leb-true, eq-eqb, le-leb}
use Rattle.bits.specs.Rounding.{page_size}
use Rattle.words.specs.LittleEndian.{Small}
use Rattle.recordfile.specs.Words.{record_bytes}
use Rattle.recordfile.specs.Records.{count_in, records_in}
use Rattle.recordfile.specs.Form.{Form, malformed, needs, least_records, most_records, records_need, judged, beside, in_form}
use Rattle.recordfile.specs.Snapshots.{Snapshot, of_records, snapshot_in, records_of, image_of, file_of, contents, page_file_of, Word, Each, Ranged}
use Rattle.recordfile.proofs.FileRecords.{Sound, Held, length_image_of, small_image_of, count_image_of, length-records_from, records-held, file_again, records_back}
use Rattle.recordfile.proofs.SnapshotRecords.{Shaped, contents-whole, length-records_of, records-need, shaped_read}
use Rattle.recordfile.proofs.SnapshotForm.{passed, SnapshotIs, snapshot-is}
use Rattle.recordfile.proofs.SnapshotRanged.{records-sound, ranged_held, ranged_shaped, held_ranged}

-- ---- what a file in the form has

-- "9 to 1,033 records", "The file ends where its records end.", and the page file is of the length that they need
pub record Accepted (file : List ℕ) (size : ℕ) : Type 0 where
  pub pages : ℕ
  pub whole : length file % record_bytes ≡ 0
  pub many : least_records ≤ count_in file
  pub few : count_in file ≤ most_records
  pub need : records_need (records_in file) ≡ needs pages
  pub sized : size ≡ page_size * pages

-- what is accepted beside a page file of so many bytes needs them
equal_yes : (t : Bool) → ◌≡◌ {A = ℕ} (cond t 0 11) 0 → t ≡ true
equal_yes true e = refl
equal_yes false e = absurd (omega arith)

beside-yes : (f : Form) (size : ℕ) → beside f size ≡ 0 → (n : ℕ) × (f ≡ needs n) × (size ≡ page_size * n)
beside-yes malformed size e = absurd (omega arith)
beside-yes (needs n) size e = (n, refl, eqb-true size (page_size * n) (equal_yes (eqb size (page_size * n)) e))

pub accepted : (file : List ℕ) (size : ℕ) → in_form file size ≡ 0 → Accepted file size
unfolding in_form judged
accepted file size e =
    let b : (n : ℕ) × (judged file ≡ needs n) × (size ≡ page_size * n) = beside-yes (judged file) size e in
    let whole = passed (eqb (length file % record_bytes) 0) _ b.0 b.1 in
    let many = passed (leb least_records (count_in file)) _ b.0 whole.1 in
    let few = passed (leb (count_in file) most_records) _ b.0 many.1 in
    record {
      pages = b.0;
      whole = eqb-true (length file % record_bytes) 0 whole.0;
      many = leb-true least_records (count_in file) many.0;
      few = leb-true (count_in file) most_records few.0;
      need = few.1;
      sized = b.2;
    }

-- and so much is enough
pub accepts : (file : List ℕ) (size : ℕ) → Accepted file size → in_form file size ≡ 0
unfolding in_form judged
accepts file size a =
    rw (eq-eqb (length file % record_bytes) 0 a.whole, le-leb least_records (count_in file) a.many, le-leb (count_in file) most_records a.few, a.need, eq-eqb size (page_size * a.pages) a.sized)

-- ---- read, then written

module _ (file page_file : List ℕ) (small : Small file) (ok : in_form file (length page_file) ≡ 0) where
  -- the snapshot whose records and pages the files hold
  held : SnapshotIs page_file (records_in file)
  held =
      let a : Accepted file (length page_file) = accepted file (length page_file) ok in
      snapshot-is page_file a.pages (records_in file) a.sized a.need

  -- is the one that is read from them
  is_read : snapshot_in file page_file ≡ held.snapshot
  unfolding snapshot_in
  is_read =
      ap (of_records page_file) (sym held.records)
      ∙ ap (λ (p : List ℕ). of_records p (records_of held.snapshot)) (sym held.pages)
      ∙ shaped_read held.snapshot held.shaped

  sound : Each Sound (records_in file)
  sound = rw (← held.records) (records-sound held.snapshot)

  -- AN ACCEPTED FILE WRITTEN AGAIN GIVES THE SAME BYTES
  pub written_again : (file_of (snapshot_in file page_file) ≡ file) × (page_file_of (snapshot_in file page_file) ≡ page_file)
  unfolding file_of
  written_again =
      let a : Accepted file (length page_file) = accepted file (length page_file) ok in
      (rw (is_read, held.records) (file_again file small a.whole sound), rw is_read held.pages)

  -- and what is read is in range
  pub ranged_in : Word (length page_file) → Ranged (snapshot_in file page_file)
  ranged_in pages =
      let a : Accepted file (length page_file) = accepted file (length page_file) ok in
      let s : Snapshot = held.snapshot in
      let h : Each Held (records_of s) = rw held.records (records-held file 0 (count_in file) small (omega arith) sound) in
      let n : length (records_of s) ≡ count_in file = ap length held.records ∙ length-records_from file 0 (count_in file) in
      rw is_read (held_ranged s held.shaped h (omega (arith, length-records_of s, a.few)) (rw held.pages pages))

-- ---- written, then read

-- "48-byte records": the length of a snapshot's record file
pub length-file_of : (s : Snapshot) → length (file_of s) ≡ record_bytes * (least_records + (length s.sources + length s.dirty))
unfolding file_of
length-file_of s = rw (length_image_of (records_of s), length-records_of s)

-- it is bytes
pub small-file_of : (s : Snapshot) → Small (file_of s)
unfolding file_of
small-file_of s = small_image_of (records_of s)

-- RECORD FILES READ BACK TO THE SAME SNAPSHOT
pub read_back : (s : Snapshot) → Ranged s
    → (in_form (file_of s) (length (page_file_of s)) ≡ 0) × (snapshot_in (file_of s) (page_file_of s) ≡ s)
unfolding file_of page_file_of snapshot_in
read_back s ranged =
    let shaped : Shaped s = ranged_shaped s ranged in
    let rs : records_in (image_of (records_of s)) ≡ records_of s = records_back (records_of s) (ranged_held s ranged) in
    let n : count_in (image_of (records_of s)) ≡ least_records + (length s.sources + length s.dirty) =
    count_image_of (records_of s) ∙ length-records_of s in (
      accepts (image_of (records_of s)) (length (page_file_of s))
          (record {
            pages = length (page_file_of s) / page_size;
            whole = omega (arith, length_image_of (records_of s));
            many = omega arith;
            few = omega (arith, ranged.few);
            need = rw rs (records-need s shaped);
            sized = let w : length (contents s.dirty) % page_size ≡ 0 = contents-whole s.dirty shaped.whole in omega arith;
          }),
      rw rs (shaped_read s shaped),
    )
