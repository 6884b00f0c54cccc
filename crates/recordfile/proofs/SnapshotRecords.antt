-- The records of a snapshot: how many they are, that they are in the form, and that they read back to the snapshot.
use mathlib.Core.Path.{◌≡◌, refl, sym, ap, ◌∙◌}
use mathlib.Core.List.{List, [], ◌∷◌, ◌++◌, append_assoc, append-nil}
use Prim.Native.Nat.{ℕ, zero, suc, ◌+◌, ◌*◌, ◌/◌, ◌%◌, ◌≤◌}
use native.Mathlib.Numerals.{add-one, add-two, add-three, add-four}
use native.Mathlib.Omega.{arith}
use lib.ListN.{length, drop, get_or, length-append}
use lib.Seq.{take_at, drop_at, drop-cons, drop-length}
use borrow.Author.Tests.{eq-eqb}
use Rattle.bits.specs.Rounding.{page_size}
use Rattle.words.specs.Bytes.{part}
use Rattle.recordfile.specs.Form.{needs, least_records, register_records, registers_a_record, dirty_needs, runs_need, registers_need, records_need}
use Rattle.recordfile.specs.Snapshots.{SourceRun, DirtyRun, Snapshot, registers_in, sources_in, dirty_in, of_records, register_records_of, source_records, pages_of, dirty_records, records_of, contents, page_file_of, Each}
use Rattle.recordfile.specs.declared.Record.{Record}

-- ---- dirty runs

-- a dirty run of whole pages
abbrev pub Whole : DirtyRun → Type 0
Whole r = length r.content % page_size ≡ 0

-- so are all together
pub contents-whole : (ds : List DirtyRun) → Each Whole ds → length (contents ds) % page_size ≡ 0
unfolding contents Each
contents-whole [] each = refl
contents-whole (d ∷ ds) each =
    let h : length d.content % page_size ≡ 0 = each.0 in
    let k : length (contents ds) % page_size ≡ 0 = contents-whole ds each.1 in
    rw length-append (omega arith)

pub length-dirty_records : (place : ℕ) (ds : List DirtyRun) → length (dirty_records place ds) ≡ length ds
unfolding dirty_records
length-dirty_records place [] = refl
length-dirty_records place (d ∷ ds) = ap suc (length-dirty_records (place + pages_of d) ds)

-- dirty runs need the pages of the page file
pub dirty-need : (place : ℕ) (ds : List DirtyRun) → Each Whole ds
    → dirty_needs place (dirty_records place ds) ≡ needs (place + length (contents ds) / page_size)
unfolding dirty_needs dirty_records contents Each
dirty-need place [] each = ap needs (omega arith)
dirty-need place (d ∷ ds) each =
    let h : length d.content % page_size ≡ 0 = each.0 in
    let p : place + pages_of d + length (contents ds) / page_size ≡ place + length (d.content ++ contents ds) / page_size =
    rw length-append (omega arith) in
    rw (eq-eqb place place refl) (dirty-need (place + pages_of d) ds each.1 ∙ ap needs p)

pub dirty-registers : (place : ℕ) (ds : List DirtyRun) → registers_in (dirty_records place ds) ≡ []
unfolding registers_in dirty_records
dirty-registers place [] = refl
dirty-registers place (d ∷ ds) = dirty-registers (place + pages_of d) ds

pub dirty-sources : (place : ℕ) (ds : List DirtyRun) → sources_in (dirty_records place ds) ≡ []
unfolding sources_in dirty_records
dirty-sources place [] = refl
dirty-sources place (d ∷ ds) = dirty-sources (place + pages_of d) ds

-- "one after another": after the pages before them, dirty runs are read from a page file of their pages
pub dirty_read : (pre : List ℕ) (place : ℕ) (ds : List DirtyRun) → length pre ≡ place * page_size → Each Whole ds
    → dirty_in (pre ++ contents ds) (dirty_records place ds) ≡ ds
unfolding dirty_in dirty_records contents Each
dirty_read pre place [] h each = refl
dirty_read pre place (d ∷ ds) h each =
    let w : length d.content % page_size ≡ 0 = each.0 in
    let l : length d.content ≡ pages_of d * page_size = omega arith in
    let here : part (pre ++ (d.content ++ contents ds)) (place * page_size) (pages_of d * page_size) ≡ d.content =
    rw (drop_at pre (d.content ++ contents ds) (place * page_size) h, take_at d.content (contents ds) (pages_of d * page_size) l) in
    let a : pre ++ contents (d ∷ ds) ≡ (pre ++ d.content) ++ contents ds = sym (append_assoc pre d.content (contents ds)) in
    let rest : dirty_in ((pre ++ d.content) ++ contents ds) (dirty_records (place + pages_of d) ds) ≡ ds =
    dirty_read (pre ++ d.content) (place + pages_of d) ds (rw length-append (omega arith)) each.1 in
    rw here (ap (λ (ts : List DirtyRun). d ∷ ts) (ap (λ (f : List ℕ). dirty_in f (dirty_records (place + pages_of d) ds)) a ∙ rest))

-- ---- source runs

pub length-source_records : (ss : List SourceRun) → length (source_records ss) ≡ length ss
unfolding source_records
length-source_records [] = refl
length-source_records (s ∷ ss) = ap suc (length-source_records ss)

-- source runs, then dirty runs: the dirty ones decide
pub runs-need : (ss : List SourceRun) (ds : List DirtyRun)
    → runs_need (source_records ss ++ dirty_records 0 ds) ≡ dirty_needs 0 (dirty_records 0 ds)
unfolding runs_need source_records dirty_records
runs-need [] [] = refl
runs-need [] (d ∷ ds) = refl
runs-need (s ∷ ss) ds = runs-need ss ds

module _ (t : List Record) where
  pub sources-registers : (ss : List SourceRun) → registers_in (source_records ss ++ t) ≡ registers_in t
  unfolding registers_in source_records
  sources-registers [] = refl
  sources-registers (s ∷ ss) = sources-registers ss

  pub sources_read : (ss : List SourceRun) → sources_in (source_records ss ++ t) ≡ ss ++ sources_in t
  unfolding sources_in source_records
  sources_read [] = refl
  sources_read (s ∷ ss) = ap (λ (rs : List SourceRun). s ∷ rs) (sources_read ss)

  pub sources-dirty : (page_file : List ℕ) (ss : List SourceRun) → dirty_in page_file (source_records ss ++ t) ≡ dirty_in page_file t
  unfolding dirty_in source_records
  sources-dirty page_file [] = refl
  sources-dirty page_file (s ∷ ss) = sources-dirty page_file ss

-- ---- registers

-- the registers of a record, before the rest
pub four_more : (registers : List ℕ) (next : ℕ) → next + registers_a_record ≤ length registers
    → drop next registers ≡
    get_or registers next 0
    ∷ get_or registers (next + 1) 0
    ∷ get_or registers (next + 2) 0
    ∷ get_or registers (next + 3) 0
    ∷ drop (next + registers_a_record) registers
four_more registers next h =
    rw (add-one, add-two, add-three, add-four, drop-cons registers next 0 (omega arith), drop-cons registers (suc next) 0 (omega arith), drop-cons registers (suc (suc next)) 0 (omega arith), drop-cons registers (suc (suc (suc next))) 0 (omega arith))

module _ (registers : List ℕ) where
  pub length_register_records : (next n : ℕ) → length (register_records_of registers next n) ≡ n
  unfolding register_records_of
  length_register_records next zero = refl
  length_register_records next (suc n) = ap suc (length_register_records (next + registers_a_record) n)

  module _ (t : List Record) where
    -- registers in order: the runs decide
    pub registers-need : (next n : ℕ) → registers_need next n (register_records_of registers next n ++ t) ≡ runs_need t
    unfolding registers_need register_records_of
    registers-need next zero = refl
    registers-need next (suc n) = rw (eq-eqb next next refl) (registers-need (next + registers_a_record) n)

    pub registers_read : (next n : ℕ) → next + registers_a_record * n ≡ length registers
        → registers_in (register_records_of registers next n ++ t) ≡ drop next registers ++ registers_in t
    unfolding registers_in register_records_of
    registers_read next zero h = let e : next ≡ length registers = omega arith in rw (e, drop-length)
    registers_read next (suc n) h =
        rw (four_more registers next (omega arith), registers_read (next + registers_a_record) n (omega arith))

    pub registers-sources : (next n : ℕ) → sources_in (register_records_of registers next n ++ t) ≡ sources_in t
    unfolding sources_in register_records_of
    registers-sources next zero = refl
    registers-sources next (suc n) = registers-sources (next + registers_a_record) n

    pub registers-dirty : (page_file : List ℕ) (next n : ℕ)
        → dirty_in page_file (register_records_of registers next n ++ t) ≡ dirty_in page_file t
    unfolding dirty_in register_records_of
    registers-dirty page_file next zero = refl
    registers-dirty page_file next (suc n) = registers-dirty page_file (next + registers_a_record) n

-- ---- a snapshot

-- a snapshot of the form's shape: "Eight" registers of four, and dirty runs of whole pages
pub record Shaped (s : Snapshot) : Type 0 where
  pub registers_are : length s.registers ≡ registers_a_record * register_records
  pub whole : Each Whole s.dirty

pub length-records_of : (s : Snapshot) → length (records_of s) ≡ least_records + (length s.sources + length s.dirty)
length-records_of s =
    simp (length-append, length_register_records s.registers 0 register_records, length-source_records s.sources, length-dirty_records 0 s.dirty) (omega arith)

module _ (s : Snapshot) (shaped : Shaped s) where
  -- "its length is 4,096 times their number": the records of a snapshot need the pages of its page file
  pub records-need : records_need (records_of s) ≡ needs (length (page_file_of s) / page_size)
  unfolding records_need page_file_of
  records-need =
      registers-need s.registers (source_records s.sources ++ dirty_records 0 s.dirty) 0 register_records
      ∙ runs-need s.sources s.dirty
      ∙ dirty-need 0 s.dirty shaped.whole
      ∙ ap needs (omega arith)

  -- they read back to the snapshot
  pub shaped_read : of_records (page_file_of s) (records_of s) ≡ s
  unfolding page_file_of registers_in sources_in dirty_in
  shaped_read =
      let runs : List Record = source_records s.sources ++ dirty_records 0 s.dirty in
      let page : List ℕ = contents s.dirty in
      let r : registers_in (register_records_of s.registers 0 register_records ++ runs) ≡ s.registers =
      registers_read s.registers runs 0 register_records (sym shaped.registers_are)
      ∙ rw (sources-registers (dirty_records 0 s.dirty) s.sources, dirty-registers 0 s.dirty) (append-nil s.registers) in
      let q : sources_in (register_records_of s.registers 0 register_records ++ runs) ≡ s.sources =
      registers-sources s.registers runs 0 register_records
      ∙ sources_read (dirty_records 0 s.dirty) s.sources
      ∙ rw (dirty-sources 0 s.dirty) (append-nil s.sources) in
      let d : dirty_in page (register_records_of s.registers 0 register_records ++ runs) ≡ s.dirty =
      registers-dirty s.registers runs page 0 register_records
      ∙ sources-dirty (dirty_records 0 s.dirty) page s.sources
      ∙ dirty_read [] 0 s.dirty refl shaped.whole in
      λ i. record { state = s.state; registers = r i; sources = q i; dirty = d i }
