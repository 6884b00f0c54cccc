-- Records in the form, beside a page file of the length that they need, are the records of a snapshot and its pages.
use mathlib.Core.Path.{◌≡◌, refl, sym, ap, ◌∙◌}
use mathlib.Core.Bool.{Bool, true, false, cond}
use mathlib.Core.List.{List, [], ◌∷◌, ◌++◌, append_assoc}
use Prim.Native.Nat.{ℕ, zero, suc, ◌+◌, ◌*◌, ◌/◌, ◌≤◌}
use native.Mathlib.Omega.{arith}
use lib.ListN.{length, drop, get_or, length-append, drop_of_length-le, take-append-drop}
use lib.Seq.{drop-drop, get_or-append-add}
use lib.Dec.{eqb}
use borrow.Author.Tests.{eqb-true}
use Rattle.bits.specs.Rounding.{page_size}
use Rattle.words.specs.Bytes.{part}
use Rattle.words.proofs.Patch.{length_part}
use Rattle.recordfile.specs.Form.{Form, malformed, needs, register_records, registers_a_record, dirty_needs, runs_need, registers_need, records_need}
use Rattle.recordfile.specs.Snapshots.{SourceRun, DirtyRun, Snapshot, kept, source_run, dirty_run, register_records_of, source_records, dirty_records, records_of, contents, page_file_of, Each}
use Rattle.recordfile.specs.declared.Record.{Record}
use Rattle.recordfile.specs.declared.Record.TheVariants.{State, Registers, Source, Dirty, Bad}
use Rattle.recordfile.proofs.SnapshotRecords.{Whole, Shaped}

-- a test that the form passed
pub passed : (t : Bool) (f : Form) (n : ℕ) → cond t f malformed ≡ needs n → (t ≡ true) × (f ≡ needs n)
passed true f n e = (refl, e)
passed false f n e = absurd (let z : ◌≡◌ {A = ℕ} 0 1 = cc in omega arith)

-- what is not in the form needs nothing
pub never : (n : ℕ) → malformed ≡ needs n → ⊥
never n e = let z : ◌≡◌ {A = ℕ} 0 1 = cc in omega arith

-- ---- dirty runs

-- such records are those of dirty runs, whose pages stand in the page file from this place on
record DirtyAre (page_file : List ℕ) (place total : ℕ) (rs : List Record) : Type 0 where
  runs : List DirtyRun
  records : dirty_records place runs ≡ rs
  pages : contents runs ≡ drop (place * page_size) page_file
  whole : Each Whole runs
  fits : place ≤ total

module _ (page_file : List ℕ) (total : ℕ) (sized : length page_file ≡ page_size * total) where
  -- one run before the others
  dirty_more : (address flag n place : ℕ) (rs : List Record) → DirtyAre page_file (place + n) total rs
      → DirtyAre page_file place total (Dirty address flag n place ∷ rs)
  unfolding dirty_records contents Each
  dirty_more address flag n place rs d =
      let k : place + n ≤ total = d.fits in
      let c : List ℕ = part page_file (place * page_size) (n * page_size) in
      let l : length c ≡ n * page_size = length_part page_file (place * page_size) (n * page_size) (omega arith) in
      let p : length c / page_size ≡ n = omega arith in
      let j : (place + n) * page_size ≡ place * page_size + n * page_size = omega arith in
      record {
        runs = dirty_run address flag c ∷ d.runs;
        records = rw (p, d.records);
        pages = rw (d.pages, j, ← drop-drop (n * page_size) (place * page_size) page_file, take-append-drop);
        whole = (omega arith, d.whole);
        fits = omega arith;
      }

  dirty-are : (rs : List Record) (place : ℕ) → dirty_needs place rs ≡ needs total → DirtyAre page_file place total rs
  unfolding dirty_needs dirty_records contents Each
  dirty-are [] place e =
      let k : place ≡ total = cc in
      record {
        runs = [];
        records = refl;
        pages = sym (drop_of_length-le page_file {i = place * page_size} (omega arith));
        whole = record {};
        fits = omega arith;
      }
  dirty-are (Dirty address flag n at ∷ rs) place e =
      let h : (eqb at place ≡ true) × (dirty_needs (place + n) rs ≡ needs total) =
      passed (eqb at place) (dirty_needs (place + n) rs) total e in
      rw (eqb-true at place h.0) (dirty_more address flag n place rs (dirty-are rs (place + n) h.1))
  dirty-are (Source address flag id offset size ∷ rs) place e = absurd (never total e)
  dirty-are (Registers first one two three four ∷ rs) place e = absurd (never total e)
  dirty-are (State version pc cycles maximum reservation ∷ rs) place e = absurd (never total e)
  dirty-are (Bad ∷ rs) place e = absurd (never total e)

  -- ---- runs

  record RunsAre (rs : List Record) : Type 0 where
    sources : List SourceRun
    dirty : List DirtyRun
    records : source_records sources ++ dirty_records 0 dirty ≡ rs
    pages : contents dirty ≡ page_file
    whole : Each Whole dirty

  no-sources : (rs : List Record) → dirty_needs 0 rs ≡ needs total → RunsAre rs
  unfolding source_records
  no-sources rs e =
      let d : DirtyAre page_file 0 total rs = dirty-are rs 0 e in
      record { sources = []; dirty = d.runs; records = d.records; pages = d.pages; whole = d.whole }

  runs-are : (rs : List Record) → runs_need rs ≡ needs total → RunsAre rs
  unfolding runs_need source_records
  runs-are [] e = no-sources [] e
  runs-are (Source address flag id offset size ∷ rs) e =
      let r : RunsAre rs = runs-are rs e in
      record {
        sources = source_run address flag id offset size ∷ r.sources;
        dirty = r.dirty;
        records = ap (λ (t : List Record). Source address flag id offset size ∷ t) r.records;
        pages = r.pages;
        whole = r.whole;
      }
  runs-are (Dirty address flag n at ∷ rs) e = no-sources (Dirty address flag n at ∷ rs) e
  runs-are (Registers first one two three four ∷ rs) e = absurd (never total e)
  runs-are (State version pc cycles maximum reservation ∷ rs) e = absurd (never total e)
  runs-are (Bad ∷ rs) e = absurd (never total e)

-- ---- registers

past : (p q : List ℕ) (n k : ℕ) → length p ≡ n → get_or (p ++ q) (n + k) 0 ≡ get_or q k 0
past p q n k h = rw (← h) (get_or-append-add p q k 0)

-- such records are n register records, the registers of which stand after any that come before, and then runs
record RegistersAre (total next n : ℕ) (rs : List Record) : Type 0 where
  values : List ℕ
  rest : List Record
  count : length values ≡ registers_a_record * n
  records : (before : List ℕ) → length before ≡ next → register_records_of (before ++ values) next n ++ rest ≡ rs
  rest_need : runs_need rest ≡ needs total

-- one record before the others
registers_more : (total next n one two three four : ℕ) (rs : List Record) → RegistersAre total (next + registers_a_record) n rs
    → RegistersAre total next (suc n) (Registers next one two three four ∷ rs)
unfolding register_records_of
registers_more total next n one two three four rs r =
    record {
      values = one ∷ two ∷ three ∷ four ∷ r.values;
      rest = r.rest;
      count = let c : length r.values ≡ registers_a_record * n = r.count in omega arith;
      records =
          λ before h.
          let q : List ℕ = one ∷ two ∷ three ∷ four ∷ r.values in
          let z : get_or (before ++ q) next 0 ≡ one = ap (λ (j : ℕ). get_or (before ++ q) j 0) (omega arith) ∙ past before q next 0 h in
          let l : length (before ++ (one ∷ two ∷ three ∷ four ∷ [])) ≡ next + registers_a_record = rw length-append (omega arith) in
          let a : before ++ q ≡ (before ++ (one ∷ two ∷ three ∷ four ∷ [])) ++ r.values = sym (append_assoc before _ r.values) in
          let m : register_records_of (before ++ q) (next + registers_a_record) n ++ r.rest ≡ rs =
          rw a (r.records (before ++ (one ∷ two ∷ three ∷ four ∷ [])) l) in
          rw (z, past before q next 1 h, past before q next 2 h, past before q next 3 h, m);
      rest_need = r.rest_need;
    }

registers_are : (total n next : ℕ) (rs : List Record) → registers_need next n rs ≡ needs total → RegistersAre total next n rs
unfolding registers_need register_records_of
registers_are total zero next rs e =
    record { values = []; rest = rs; count = refl; records = λ before h. refl; rest_need = e }
registers_are total (suc n) next (Registers first one two three four ∷ rs) e =
    let h : (eqb first next ≡ true) × (registers_need (next + registers_a_record) n rs ≡ needs total) =
    passed (eqb first next) (registers_need (next + registers_a_record) n rs) total e in
    rw (eqb-true first next h.0)
    (registers_more total next n one two three four rs (registers_are total n (next + registers_a_record) rs h.1))
registers_are total (suc n) next [] e = absurd (never total e)
registers_are total (suc n) next (State version pc cycles maximum reservation ∷ rs) e = absurd (never total e)
registers_are total (suc n) next (Source address flag id offset size ∷ rs) e = absurd (never total e)
registers_are total (suc n) next (Dirty address flag pages at ∷ rs) e = absurd (never total e)
registers_are total (suc n) next (Bad ∷ rs) e = absurd (never total e)

-- ---- the whole

-- two files' records and pages are a snapshot's
pub record SnapshotIs (page_file : List ℕ) (rs : List Record) : Type 0 where
  pub snapshot : Snapshot
  pub records : records_of snapshot ≡ rs
  pub pages : page_file_of snapshot ≡ page_file
  pub shaped : Shaped snapshot

pub snapshot-is : (page_file : List ℕ) (total : ℕ) (rs : List Record) → length page_file ≡ page_size * total
    → records_need rs ≡ needs total → SnapshotIs page_file rs
unfolding records_need page_file_of
snapshot-is page_file total (State version pc cycles maximum reservation ∷ rs) sized e =
    let r : RegistersAre total 0 register_records rs = registers_are total register_records 0 rs e in
    let d : RunsAre page_file total sized r.rest = runs-are page_file total sized r.rest r.rest_need in
    record {
      snapshot =
          record {
            state = kept version pc cycles maximum reservation;
            registers = r.values;
            sources = d.sources;
            dirty = d.dirty;
          };
      records = ap (λ (t : List Record). State version pc cycles maximum reservation ∷ t) (rw d.records (r.records [] refl));
      pages = d.pages;
      shaped = record { registers_are = r.count; whole = d.whole };
    }
snapshot-is page_file total [] sized e = absurd (never total e)
snapshot-is page_file total (Registers first one two three four ∷ rs) sized e = absurd (never total e)
snapshot-is page_file total (Source address flag id offset size ∷ rs) sized e = absurd (never total e)
snapshot-is page_file total (Dirty address flag pages at ∷ rs) sized e = absurd (never total e)
snapshot-is page_file total (Bad ∷ rs) sized e = absurd (never total e)
