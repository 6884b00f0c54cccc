-- What a snapshot answers: how long its files are, and one law for each way in which the call ends.
use mathlib.Core.Path.{◌≡◌, refl, sym, ap, ◌∙◌}
use mathlib.Core.Bool.{Bool, true, false, cond}
use mathlib.Core.List.{List, [], ◌∷◌, map}
use Prim.Native.Nat.{ℕ, suc, ◌+◌, ◌*◌, ◌/◌, ◌≤◌}
use native.Mathlib.Nat.{add-zero}
use native.Mathlib.Omega.{arith}
use lib.Dec.{eqb, leb}
use lib.ListN.{length, length-append, length-map}
use borrow.Author.Tests.{eq-eqb, leb-true}
use Rattle.bits.specs.Rounding.{page_size}
use Rattle.words.specs.Bytes.{written}
use Rattle.words.proofs.Written.{written_none}
use Rattle.program.specs.Program.{run}
use Rattle.memory.specs.declared.Memory.{Memory}
use Rattle.memory.proofs.StoreCases.{cases}
use Rattle.machine.specs.declared.Machine.{Machine}
use Rattle.machine.specs.Fresh.{LentMachine}
use Rattle.recordfile.specs.Words.{record_bytes}
use Rattle.recordfile.specs.Form.{least_records}
use Rattle.recordfile.specs.Snapshots.{Snapshot, records_of, file_of, contents, page_file_of}
use Rattle.recordfile.proofs.SnapshotRecords.{length-records_of}
use Rattle.recordfile.proofs.RoundTrip.{length-file_of}
use Rattle.tracking.specs.Operations.{fits_all, fits_tracked, machine_does}
use Rattle.tracking.specs.Answers.{tracked_read}
use Rattle.tracking.specs.declared.storage.TrackedLent.{TrackedLent}
use Rattle.tracking.proofs.Lengths.{memory-told}
use Rattle.snapshot.specs.Runs.{Run, dirty_from, sources_from, total}
use Rattle.snapshot.specs.MakeSnapshot.{Made, not_made, holds, laid_out, make_snapshot}
use Rattle.snapshot.specs.Answers.{lent_of, laid, Count, counts, met_run, tally, Room, read_out, dirty_out, snapshot_now}
use Rattle.snapshot.specs.declared.make.Outputs.{Outputs}
use Rattle.snapshot.proofs.Joining.{all_true}
use Rattle.snapshot.proofs.Merged.{runs_bound}
use Rattle.snapshot.proofs.TakenNow.{made_unfit, made-unmet, made-now}
use Rattle.snapshot.proofs.Writing.{length-content}
use Rattle.snapshot.proofs.Files.{met-first}

-- ---- how long the files are

length-contents : (slots area : List ℕ) (rs : List Run) → length (contents (map (read_out slots area) rs)) ≡ total rs * page_size
unfolding contents total
length-contents slots area [] = refl
length-contents slots area (r ∷ rs) =
    let h : length (contents (map (read_out slots area) rs)) ≡ total rs * page_size = length-contents slots area rs in
    simp (length-append, length-content slots area r.page r.flag r.pages, h) (omega arith)

module _ (slots flags area records : List ℕ) (m : Machine) where
  abbrev taken-now : Snapshot
  taken-now = snapshot_now slots flags area records m

  pub length-pages : length (page_file_of taken-now) ≡ total (dirty_from flags 0) * page_size
  unfolding page_file_of dirty_out
  length-pages = length-contents slots area (dirty_from flags 0)

  pub length-dirty : length (dirty_out slots flags area) ≡ length (dirty_from flags 0)
  unfolding dirty_out
  length-dirty = length-map (dirty_from flags 0) (read_out slots area)

  pub length-records : length (records_of taken-now) ≡ least_records + length (sources_from flags records 0) + length (dirty_from flags 0)
  length-records = omega (arith, length-records_of taken-now, length-dirty)

  pub length-file : length (file_of taken-now) ≡ (least_records + length (sources_from flags records 0) + length (dirty_from flags 0)) * record_bytes
  length-file = omega (arith, length-file_of taken-now, length-dirty)

-- ---- runs that were met and counted

-- where none refuses
tally_all : (slots : List ℕ) (used r n : ℕ) (rs : List Run) → (tally slots used r n rs).number ≡ 0
    → tally slots used r n rs ≡ counts 0 (r + length rs) (n + total rs)
unfolding tally total
tally_all slots used r n [] e = rw (add-zero r, add-zero n)
tally_all slots used r n (x ∷ rs) e =
    let k : ℕ = met_run slots used x.pages x.page in
    let f : (k ≡ 0) × ((tally slots used (r + 1) (n + x.pages) rs).number ≡ 0) = met-first (eqb k 0) _ k refl e in
    let a : r + 1 + length rs ≡ r + suc (length rs) = omega arith in
    let b : n + x.pages + total rs ≡ n + (x.pages + total rs) = omega arith in
    rw (eq-eqb k 0 f.0, ← a, ← b) (tally_all slots used (r + 1) (n + x.pages) rs f.1)

-- at most as many as there are
runs-few : (slots : List ℕ) (used r n : ℕ) (rs : List Run) → (tally slots used r n rs).runs ≤ r + length rs
unfolding tally
runs-few slots used r n [] = omega arith
runs-few slots used r n (x ∷ rs) =
    cases (λ (c : Count). c.runs ≤ r + suc (length rs)) (eqb (met_run slots used x.pages x.page) 0) _ _
    (λ e. omega (arith, runs-few slots used (r + 1) (n + x.pages) rs)) (λ e. omega arith)

-- so all together are no more than pages
module _ (flags records : List ℕ) (sources : ℕ) (s : sources ≡ length (sources_from flags records 0)) where
  pub few-sources : sources ≤ length flags
  few-sources = omega (arith, runs_bound flags records)

  pub few-runs : (slots : List ℕ) (used k runs dirty : ℕ) → counts k runs dirty ≡ tally slots used 0 0 (dirty_from flags 0)
      → sources + runs ≤ length flags
  few-runs slots used k runs dirty e =
      let q : runs ≡ (tally slots used 0 0 (dirty_from flags 0)).runs = ap (λ (x : Count). x.runs) e in
      omega (arith, runs_bound flags records, runs-few slots used 0 0 (dirty_from flags 0))

-- what a count of them told, where each was met
module _ (slots : List ℕ) (used : ℕ) (rs : List Run) (runs dirty : ℕ) (e : counts 0 runs dirty ≡ tally slots used 0 0 rs) where
  all-met : (tally slots used 0 0 rs).number ≡ 0
  all-met = sym (ap (λ (x : Count). x.number) e)

  counted-all : counts 0 runs dirty ≡ counts 0 (0 + length rs) (0 + total rs)
  counted-all = e ∙ tally_all slots used 0 0 rs all-met

  runs-counted : runs ≡ length rs
  runs-counted = let q : runs ≡ 0 + length rs = ap (λ (x : Count). x.runs) counted-all in omega arith

  pages-counted : dirty ≡ total rs
  pages-counted = let q : dirty ≡ 0 + total rs = ap (λ (x : Count). x.pages) counted-all in omega arith

-- then both outputs have room where their test says so
pub room_told : (s : TrackedLent) (o : Outputs) (memory : Memory) → true ≡ fits_tracked (tracked_read s memory) → (runs dirty : ℕ)
    → counts 0 runs dirty ≡ tally s.slots.now memory.used 0 0 (dirty_from s.flags.now 0) → (sources : ℕ)
    → sources ≡ length (sources_from s.flags.now s.records.now 0)
    → true ≡ cond (leb ((least_records + sources + runs) * record_bytes) (length o.file.now)) (leb (dirty * page_size) (length o.pages.now)) false
    → Room s o memory sources runs
room_told s o memory t runs dirty e sources q n =
    let r = all_true _ _ (sym n) in
    let f : (least_records + sources + runs) * record_bytes ≤ length o.file.now = leb-true _ _ r.0 in
    let p : dirty * page_size ≤ length o.pages.now = leb-true _ _ r.1 in
    record {
      fit = memory-told (length s.slots.now) (length s.flags.now) (length s.area.now) (length s.records.now) memory true t refl;
      met_all = all-met s.slots.now memory.used (dirty_from s.flags.now 0) runs dirty e;
      sources_are = q;
      dirty_are = runs-counted s.slots.now memory.used (dirty_from s.flags.now 0) runs dirty e;
      file_holds = f;
      pages_hold = rw (← pages-counted s.slots.now memory.used (dirty_from s.flags.now 0) runs dirty e) p;
    }

-- ---- the call

-- both outputs hold the files, or not
module _ (file pages : ℕ) (s : Snapshot) where
  pub out-short : holds file pages s ≡ false → not_made 8 ≡ laid_out file pages s
  unfolding laid_out
  out-short e = rw e

  pub out-held : holds file pages s ≡ true
      → record {
        number = 0;
        records = length (records_of s);
        pages = length (page_file_of s) / page_size;
        file = file_of s;
        body = page_file_of s;
      }
      ≡ laid_out file pages s
  unfolding laid_out
  out-held e = rw e

-- what is answered and left: a number, how many records and pages, and both outputs
abbrev leaves : ℕ → ℕ → ℕ → List ℕ → List ℕ → LentMachine → Made × LentMachine
leaves n r p file pages m = (record { number = n; records = r; pages = p; file = file; body = pages }, m)

module _ (slots flags area records file pages : List ℕ) (m : Machine) where
  abbrev lent : LentMachine
  lent = lent_of slots flags area records m

  abbrev promised : Made × LentMachine
  promised = laid file pages (run machine_does (make_snapshot (length file) (length pages)) lent)

  abbrev Fit : Bool → Type 0
  Fit b = b ≡ fits_all (length slots) (length flags) (length area) (length records) m.memory

  -- a refusal writes nothing
  refused : (n : ℕ) → (not_made n, lent) ≡ run machine_does (make_snapshot (length file) (length pages)) lent
      → leaves n 0 0 file pages lent ≡ promised
  refused n e =
      (λ i. leaves n 0 0 (sym (written_none file 0) i) (sym (written_none pages 0) i) lent)
      ∙ ap (laid file pages) e

  pub snapshot_unfit : Fit false → leaves 9 0 0 file pages lent ≡ promised
  snapshot_unfit fit = refused 9 (made_unfit slots flags area records m false fit (length file) (length pages) refl)

  module _ (fit : Fit true) where
    -- a dirty page was not met
    pub snapshot_unmet : (k : ℕ) → counts k 0 0 ≡ tally slots m.memory.used 0 0 (dirty_from flags 0) → false ≡ eqb k 0
        → leaves k 0 0 file pages lent ≡ promised
    snapshot_unmet k e i =
        refused k
        (made-unmet slots flags area records m true fit (length file) (length pages) refl k false (ap (λ (x : Count). x.number) e) i refl)

    -- the dirty pages were met and counted
    module _ (runs dirty : ℕ) (e : counts 0 runs dirty ≡ tally slots m.memory.used 0 0 (dirty_from flags 0)) (sources : ℕ)
        (s : sources ≡ length (sources_from flags records 0)) where
      -- the snapshot is laid out
      outputs_laid : laid file pages (laid_out (length file) (length pages) (taken-now slots flags area records m), lent) ≡ promised
      outputs_laid =
          ap (laid file pages)
          (made-now slots flags area records m true fit (length file) (length pages) refl 0 true (ap (λ (x : Count). x.number) e) refl refl)

      runs-are : runs ≡ length (dirty_from flags 0)
      runs-are = runs-counted slots m.memory.used (dirty_from flags 0) runs dirty e

      pages-are : dirty ≡ total (dirty_from flags 0)
      pages-are = pages-counted slots m.memory.used (dirty_from flags 0) runs dirty e

      records_are : length (records_of (taken-now slots flags area records m)) ≡ least_records + sources + runs
      records_are = rw (s, runs-are) (length-records slots flags area records m)

      abbrev Held : Bool → Type 0
      Held h = h ≡ cond (leb ((least_records + sources + runs) * record_bytes) (length file)) (leb (dirty * page_size) (length pages)) false

      held : (h : Bool) → Held h → holds (length file) (length pages) (taken-now slots flags area records m) ≡ h
      unfolding holds
      held h w =
          rw (length-file slots flags area records m, length-pages slots flags area records m, ← s, ← runs-are, ← pages-are) (sym w)

      pub snapshot_short : Held false → leaves 8 0 0 file pages lent ≡ promised
      snapshot_short w =
          (λ i. leaves 8 0 0 (sym (written_none file 0) i) (sym (written_none pages 0) i) lent)
          ∙ ap (λ (x : Made). laid file pages (x, lent)) (out-short _ _ _ (held false w))
          ∙ outputs_laid

      pub snapshot_made : Held true → (f p : List ℕ) → f ≡ written file 0 (file_of (snapshot_now slots flags area records m))
          → p ≡ written pages 0 (page_file_of (snapshot_now slots flags area records m))
          → leaves 0 (least_records + sources + runs) dirty f p lent ≡ promised
      snapshot_made w f p ef ep =
          let q : dirty ≡ length (page_file_of (taken-now slots flags area records m)) / page_size =
          rw (length-pages slots flags area records m, ← pages-are) (omega arith) in
          (λ i. leaves 0 (sym records_are i) (q i) (ef i) (ep i) lent)
          ∙ ap (λ (x : Made). laid file pages (x, lent)) (out-held _ _ _ (held true w))
          ∙ outputs_laid
