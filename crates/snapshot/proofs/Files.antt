-- The runs of a snapshot written in turn, and both files.
use mathlib.Core.Path.{◌≡◌, refl, sym, ap, ◌∙◌}
use mathlib.Core.Bool.{Bool, true, false, cond}
use mathlib.Core.List.{List, [], ◌∷◌, ◌++◌, map, append_assoc}
use Prim.Native.Nat.{ℕ, ◌+◌, ◌-◌, ◌*◌, ◌/◌, ◌^◌, ◌≤◌, ◌<◌}
use native.Mathlib.Omega.{arith}
use lib.Dec.{eqb}
use lib.ListN.{length, length-map}
use borrow.Author.Tests.{eq-eqb, eqb-true}
use Rattle.bits.specs.Rounding.{page_size}
use Rattle.words.specs.Bytes.{written}
use Rattle.words.proofs.Written.{length-written, written_next, written_none}
use Rattle.memory.specs.declared.Memory.{Memory}
use Rattle.memory.specs.Storage.{Fitting}
use Rattle.memory.specs.Pages.{maximum}
use Rattle.machine.specs.declared.Machine.{Machine}
use Rattle.recordfile.specs.declared.Record.{Record}
use Rattle.recordfile.specs.declared.Record.TheVariants.{Source}
use Rattle.recordfile.specs.Words.{record_bytes, image}
use Rattle.recordfile.specs.Records.{words_of, encoded}
use Rattle.recordfile.specs.Form.{least_records, register_records}
use Rattle.recordfile.specs.Snapshots.{SourceRun, source_records, dirty_records, image_of, file_of, contents, page_file_of}
use Rattle.recordfile.proofs.FileRecords.{length_image_of}
use Rattle.recordfile.proofs.SnapshotRecords.{length_register_records, length-source_records, length-dirty_records}
use Rattle.tracking.specs.Operations.{entry_in}
use Rattle.snapshot.specs.Runs.{Run, flag_at, dirty_from, sources_from, total}
use Rattle.snapshot.specs.Walk.{run_of, source_of}
use Rattle.snapshot.specs.Answers.{Count, counts, met_run, tally, read_out, dirty_out, head_records, run_records, snapshot_now}
use Rattle.snapshot.specs.declared.runs.DirtySpan.{DirtySpan}
use Rattle.snapshot.specs.declared.runs.SourceSpan.{SourceSpan}
use Rattle.snapshot.proofs.RunPages.{SourcesLaid, sources-laid, DirtyFront, DirtyLaid}
use Rattle.snapshot.proofs.Counting.{dirty_all}
use Rattle.snapshot.proofs.Writing.{Recording, recording_first, recording_more, recording_next, recording_done, length-content, pages-content}

-- ---- source runs

-- the runs of all pages, in turn from the first page on
sources_all : (flags records : List ℕ) → SourcesLaid (entry_in flags records) (length flags) 0 (sources_from flags records 0)
unfolding sources_from
sources_all flags records =
    let z : length flags - 0 ≡ length flags = omega arith in
    let y : 0 + length flags ≡ length flags = omega arith in
    rw z (rw y at (sources-laid (entry_in flags records) (length flags) 0))

no-runs : {A : Type 0} (l : List A) → length l ≡ 0 → l ≡ []
no-runs [] e = refl
no-runs (r ∷ l) e = absurd (omega arith)

-- those that are left are to be written, from record `at` on, up to `count` of them; their pages are not below `passed`
pub record WritingSources (flags records file₀ : List ℕ) (from count : ℕ) (file : List ℕ) (at : ℕ) (left : List SourceRun) : Type 0 where
  pub ends : at + length left ≡ from + count
  pub recorded : Recording file₀ from (source_records (sources_from flags records 0)) file at (source_records left)
  pub passed : ℕ
  pub laid : SourcesLaid (entry_in flags records) (length flags) passed left

pub sources_first : (flags records file₀ : List ℕ) (from count : ℕ) → count ≡ length (sources_from flags records 0)
    → (from + count) * record_bytes ≤ length file₀ → WritingSources flags records file₀ from count file₀ from (sources_from flags records 0)
sources_first flags records file₀ from count e h =
    record {
      ends = omega arith;
      recorded = recording_first file₀ from _ (rw (length-source_records (sources_from flags records 0), ← e) h);
      passed = 0;
      laid = sources_all flags records;
    }

module _ {flags records file₀ : List ℕ} {from count : ℕ} {file : List ℕ} {at : ℕ} {left : List SourceRun}
    (g : WritingSources flags records file₀ from count file at left) where
  -- a run
  module _ (r : SourceSpan) (rest : List SourceRun) (e : left ≡ source_of r ∷ rest) where
    source-within : r.page * page_size + r.pages * page_size ≤ length flags * page_size
    unfolding SourcesLaid
    source-within = (rw e at g.laid).0.within

    pub source_start : length flags * page_size ≤ maximum → r.page * page_size < 2 ^ 64
    source_start h = omega (arith, source-within)

    pub source_size : length flags * page_size ≤ maximum → r.pages * page_size < 2 ^ 64
    source_size h = omega (arith, source-within)

    -- is written
    pub sources_next : (now : List ℕ) → now ≡ encoded file at (Source (r.page * page_size) r.flag r.id r.offset (r.pages * page_size))
        → WritingSources flags records file₀ from count now (at + 1) rest
    unfolding source_records SourcesLaid
    sources_next now q =
        let l = rw e at g.ends in
        record {
          ends = omega arith;
          recorded = recording_next _ _ (rw e at g.recorded) now q;
          passed = (r.page * page_size + r.pages * page_size) / page_size;
          laid = (rw e at g.laid).1;
        }

  -- no run is left
  pub sources_none : left ≡ [] → file ≡ written file₀ (from * record_bytes) (image_of (source_records (sources_from flags records 0)))
  unfolding source_records
  sources_none e = recording_done (rw e at g.recorded)

  -- the last record is written
  pub sources_done : from + count ≤ at → file ≡ written file₀ (from * record_bytes) (image_of (source_records (sources_from flags records 0)))
  sources_done h = let l = g.ends in sources_none (no-runs left (omega arith))

-- ---- dirty runs

-- runs that are met: the first is, and the others are, however many were counted before
pub met-first : (b : Bool) (c : Count) (k : ℕ) → b ≡ eqb k 0 → (cond b c (counts k 0 0)).number ≡ 0 → (k ≡ 0) × (c.number ≡ 0)
met-first true c k e q = (eqb-true k 0 (sym e), q)
met-first false c k e q = absurd (let y : false ≡ true = e ∙ eq-eqb k 0 q in let x : ◌≡◌ {A = ℕ} 0 1 = cc in omega arith)

met_again : (slots : List ℕ) (used : ℕ) (rs : List Run) (r n i j : ℕ) → (tally slots used r n rs).number ≡ 0
    → (tally slots used i j rs).number ≡ 0
unfolding tally
met_again slots used [] r n i j e = refl
met_again slots used (x ∷ rs) r n i j e =
    let f = met-first (eqb (met_run slots used x.pages x.page) 0) _ (met_run slots used x.pages x.page) refl e in
    rw (eq-eqb _ 0 f.0) (met_again slots used rs (r + 1) (n + x.pages) (i + 1) (j + x.pages) f.1)

module _ (slots : List ℕ) (used : ℕ) (x : Run) (rs : List Run) (e : (tally slots used 0 0 (x ∷ rs)).number ≡ 0) where
  met-one : met_run slots used x.pages x.page ≡ 0
  unfolding tally
  met-one = (met-first (eqb (met_run slots used x.pages x.page) 0) _ (met_run slots used x.pages x.page) refl e).0

  met-others : (tally slots used 0 0 rs).number ≡ 0
  unfolding tally
  met-others =
      met_again slots used rs (0 + 1) (0 + x.pages) 0 0
      (met-first (eqb (met_run slots used x.pages x.page) 0) _ (met_run slots used x.pages x.page) refl e).1

-- those that are left are to be written, from record `at` on, up to `count` of them, and their bytes from page `place` of the page
-- file on; their pages are not below `passed`
pub record WritingDirty (slots flags area file₀ pages₀ : List ℕ) (memory : Memory) (from count : ℕ) (file pages : List ℕ) (at place : ℕ)
    (left : List Run) : Type 0 where
  pub ends : at + length left ≡ from + count
  pub met_all : (tally slots memory.used 0 0 left).number ≡ 0
  pub recorded :
      Recording
      file₀
      from
      (dirty_records 0 (dirty_out slots flags area))
      file
      at
      (dirty_records place (map (read_out slots area) left))
  pub paged : written pages (place * page_size) (contents (map (read_out slots area) left))
      ≡ written pages₀ 0 (contents (dirty_out slots flags area))
  pub kept : length pages ≡ length pages₀
  pub room : (place + total left) * page_size ≤ length pages₀
  pub passed : ℕ
  pub laid : DirtyLaid (flag_at flags) (length flags) passed left

pub dirty_first : (slots flags area file₀ pages₀ : List ℕ) (memory : Memory) (from count : ℕ)
    → (tally slots memory.used 0 0 (dirty_from flags 0)).number ≡ 0 → count ≡ length (dirty_from flags 0)
    → (from + count) * record_bytes ≤ length file₀ → total (dirty_from flags 0) * page_size ≤ length pages₀
    → WritingDirty slots flags area file₀ pages₀ memory from count file₀ pages₀ from 0 (dirty_from flags 0)
unfolding dirty_out
dirty_first slots flags area file₀ pages₀ memory from count m e h k =
    record {
      ends = omega arith;
      met_all = m;
      recorded =
          recording_first file₀ from _
          (rw (length-dirty_records 0 (map (read_out slots area) (dirty_from flags 0)), length-map (dirty_from flags 0) (read_out slots area), ← e) h);
      paged = refl;
      kept = refl;
      room = omega arith;
      passed = 0;
      laid = dirty_all flags;
    }

module _ {slots flags area file₀ pages₀ : List ℕ} {memory : Memory} {from count : ℕ} {file pages : List ℕ} {at place : ℕ} {left : List Run}
    (g : WritingDirty slots flags area file₀ pages₀ memory from count file pages at place left) where
  -- no run is left
  module _ (e : left ≡ []) where
    pub dirty_none : file ≡ written file₀ (from * record_bytes) (image_of (dirty_records 0 (dirty_out slots flags area)))
    unfolding dirty_records
    dirty_none = recording_done (rw e at g.recorded)

    pub pages_none : pages ≡ written pages₀ 0 (contents (dirty_out slots flags area))
    unfolding contents
    pages_none = sym (written_none pages (place * page_size)) ∙ (rw e at g.paged)

  -- the last record is written
  module _ (h : from + count ≤ at) where
    all_written : left ≡ []
    all_written = let l = g.ends in no-runs left (omega arith)

    pub dirty_done : file ≡ written file₀ (from * record_bytes) (image_of (dirty_records 0 (dirty_out slots flags area)))
    dirty_done = dirty_none all_written

    pub pages_done : pages ≡ written pages₀ 0 (contents (dirty_out slots flags area))
    pages_done = pages_none all_written

  -- a run
  module _ (r : DirtySpan) (rest : List Run) (e : left ≡ run_of r ∷ rest) where
    front : DirtyFront (flag_at flags) (length flags) g.passed (run_of r)
    unfolding DirtyLaid
    front = (rw e at g.laid).0

    pub dirty_in_slots : Fitting (length slots) (length flags) (length area) memory → r.page + r.pages ≤ length slots
    dirty_in_slots h = omega (arith, front.within, h.slots_are, h.flags_are)

    pub dirty_some : 0 < r.pages
    dirty_some = front.some

    pub dirty_met : met_run slots memory.used r.pages r.page ≡ 0
    dirty_met = met-one slots memory.used (run_of r) rest (rw e at g.met_all)

    pub dirty_file : (at + 1) * record_bytes ≤ length file
    unfolding dirty_records
    dirty_file = let k = g.recorded.kept in let h = rw e at g.recorded.room in omega arith

    pub dirty_pages : (place + r.pages) * page_size ≤ length pages
    unfolding total
    dirty_pages = let k = g.kept in let h = rw e at g.room in omega arith

    -- is written
    pub dirty_next : (now paged : List ℕ)
        → now ≡ written file (at * record_bytes) (image_of (dirty_records place (read_out slots area (run_of r) ∷ [])))
        → paged ≡ written pages (place * page_size) (read_out slots area (run_of r)).content
        → WritingDirty slots flags area file₀ pages₀ memory from count now paged (at + 1) (place + r.pages) rest
    unfolding dirty_records contents total DirtyLaid
    dirty_next now paged q w =
        let c : List ℕ = (read_out slots area (run_of r)).content in
        let l : length c ≡ r.pages * page_size = length-content slots area r.page r.flag r.pages in
        let z : (place + r.pages) * page_size ≡ place * page_size + length c = omega arith in
        let h : (place + (r.pages + total rest)) * page_size ≤ length pages₀ = rw e at g.room in
        let l = rw e at g.ends in
        record {
          ends = omega arith;
          met_all = met-others slots memory.used (run_of r) rest (rw e at g.met_all);
          recorded = rw (pages-content slots area r.page r.flag r.pages) at (recording_more _ _ (rw e at g.recorded) now q);
          paged = rw (z, w, written_next pages c _ (place * page_size)) (rw e at g.paged);
          kept = ap length w ∙ length-written pages c (place * page_size) ∙ g.kept;
          room = omega arith;
          passed = r.page + r.pages;
          laid = (rw e at g.laid).1;
        }

-- ---- both files

image-append : (a b : List Record) → image_of (a ++ b) ≡ image_of a ++ image_of b
unfolding image_of
image-append [] b = refl
image-append (r ∷ a) b = rw (image-append a b) (sym (append_assoc (image (words_of r)) (image_of a) (image_of b)))

-- records, and others after them
records_next : (file mid now : List ℕ) (a b : List Record) (from n : ℕ) → n ≡ from + length a
    → mid ≡ written file (from * record_bytes) (image_of a) → now ≡ written mid (n * record_bytes) (image_of b)
    → now ≡ written file (from * record_bytes) (image_of (a ++ b))
records_next file mid now a b from n e q w =
    let l : length (image_of a) ≡ record_bytes * length a = length_image_of a in
    let z : n * record_bytes ≡ from * record_bytes + length (image_of a) = omega arith in
    w ∙ rw (q, z, image-append a b) (written_next file (image_of a) (image_of b) (from * record_bytes))

module _ (slots flags area records file mid now : List ℕ) where
  -- source runs, then dirty runs
  pub runs-filed : (sources : ℕ) → sources ≡ length (sources_from flags records 0)
      → mid ≡ written file (least_records * record_bytes) (image_of (source_records (sources_from flags records 0)))
      → now ≡ written mid ((least_records + sources) * record_bytes) (image_of (dirty_records 0 (dirty_out slots flags area)))
      → now ≡ written file (least_records * record_bytes) (image_of (run_records slots flags area records))
  runs-filed sources e q w =
      records_next file mid now _ _ least_records (least_records + sources)
      (rw (length-source_records (sources_from flags records 0)) (omega arith)) q w

  -- the machine's numbers, then the runs
  pub file-written : (m : Machine) → mid ≡ written file 0 (image_of (head_records m))
      → now ≡ written mid (least_records * record_bytes) (image_of (run_records slots flags area records))
      → now ≡ written file 0 (file_of (snapshot_now slots flags area records m))
  unfolding file_of
  file-written m q w =
      records_next file mid now (head_records m) (run_records slots flags area records) 0 least_records
      (rw (length_register_records m.registers 0 register_records)) q w

pub pages_written : (slots flags area records pages now : List ℕ) (m : Machine)
    → now ≡ written pages 0 (contents (dirty_out slots flags area))
    → now ≡ written pages 0 (page_file_of (snapshot_now slots flags area records m))
unfolding page_file_of
pages_written slots flags area records pages now m e = e
