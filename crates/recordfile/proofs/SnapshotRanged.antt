-- A snapshot of the form's shape is in range exactly where a file can hold every one of its records.
use mathlib.Core.Path.{◌≡◌, sym}
use mathlib.Core.List.{List, [], ◌∷◌, ◌++◌}
use Prim.Native.Nat.{ℕ, zero, suc, ◌+◌, ◌*◌, ◌%◌, ◌^◌, ◌≤◌, ◌<◌}
use native.Mathlib.Omega.{arith}
use lib.ListN.{length, drop, get_or, length-append}
use lib.Seq.{drop-length}
use Rattle.bits.specs.Rounding.{page_size}
use Rattle.recordfile.specs.Records.{words_of}
use Rattle.recordfile.specs.Form.{least_records, most_records, register_records, registers_a_record}
use Rattle.recordfile.specs.Snapshots.{SourceRun, DirtyRun, Snapshot, state_record, register_records_of, source_records, pages_of, dirty_records, records_of, contents, page_file_of, Word, Each, SourceRanged, DirtyRanged, Ranged}
use Rattle.recordfile.specs.declared.Record.{Record}
use Rattle.recordfile.specs.declared.Record.TheVariants.{Registers, Source, Dirty}
use Rattle.recordfile.proofs.FileRecords.{Sound, Held}
use Rattle.recordfile.proofs.SnapshotRecords.{Whole, Shaped, four_more}

-- ---- every element of a list

module _ {A : Type 0} (P : A → Type 0) where
  pub each_append : (a b : List A) → Each P a → Each P b → Each P (a ++ b)
  unfolding Each
  each_append [] b p q = q
  each_append (x ∷ a) b p q = (p.0, each_append a b p.1 q)

  pub each_left : (a b : List A) → Each P (a ++ b) → Each P a
  unfolding Each
  each_left [] b p = record {}
  each_left (x ∷ a) b p = (p.0, each_left a b p.1)

  pub each_right : (a b : List A) → Each P (a ++ b) → Each P b
  unfolding Each
  each_right [] b p = p
  each_right (x ∷ a) b p = each_right a b p.1

word_at : (l : List ℕ) (i : ℕ) → Each Word l → Word (get_or l i 0)
unfolding Each
word_at [] i each = omega arith
word_at (x ∷ l) zero each = each.0
word_at (x ∷ l) (suc i) each = word_at l i each.1

-- ---- no record of a snapshot is `Bad`

registers-sound : (registers : List ℕ) (next n : ℕ) → Each Sound (register_records_of registers next n)
unfolding Each register_records_of
registers-sound registers next zero = record {}
registers-sound registers next (suc n) =
    (λ e. let z : ◌≡◌ {A = ℕ} 0 1 = cc in omega arith, registers-sound registers (next + registers_a_record) n)

sources-sound : (ss : List SourceRun) → Each Sound (source_records ss)
unfolding Each source_records
sources-sound [] = record {}
sources-sound (s ∷ ss) = (λ e. let z : ◌≡◌ {A = ℕ} 0 1 = cc in omega arith, sources-sound ss)

dirty-sound : (place : ℕ) (ds : List DirtyRun) → Each Sound (dirty_records place ds)
unfolding Each dirty_records
dirty-sound place [] = record {}
dirty-sound place (d ∷ ds) = (λ e. let z : ◌≡◌ {A = ℕ} 0 1 = cc in omega arith, dirty-sound (place + pages_of d) ds)

pub records-sound : (s : Snapshot) → Each Sound (records_of s)
unfolding Each
records-sound s =
    let q : Each Sound (source_records s.sources ++ dirty_records 0 s.dirty) =
    each_append Sound (source_records s.sources) _ (sources-sound s.sources) (dirty-sound 0 s.dirty) in (
      λ e. let z : ◌≡◌ {A = ℕ} 0 1 = cc in omega arith,
      each_append Sound (register_records_of s.registers 0 register_records) _ (registers-sound s.registers 0 register_records) q,
    )

-- ---- a file can hold the records of a snapshot in range

six_words : (a b c d e f : ℕ) → Word a → Word b → Word c → Word d → Word e → Word f → Each Word (a ∷ b ∷ c ∷ d ∷ e ∷ f ∷ [])
unfolding Each
six_words a b c d e f ha hb hc hd he hf = (ha, (hb, (hc, (hd, (he, (hf, record {}))))))

registers-held : (registers : List ℕ) (next n : ℕ) → next + registers_a_record * n < 2 ^ 64 → Each Word registers
    → Each Held (register_records_of registers next n)
unfolding Each register_records_of
registers-held registers next zero h each = record {}
registers-held registers next (suc n) h each =
    let w : (i : ℕ) → Word (get_or registers i 0) = λ i. word_at registers i each in (
      record {
        told = record {};
        words = six_words _ _ _ _ _ _ (omega arith) (omega arith) (w next) (w (next + 1)) (w (next + 2)) (w (next + 3));
      },
      registers-held registers (next + registers_a_record) n (omega arith) each,
    )

sources-held : (ss : List SourceRun) → Each SourceRanged ss → Each Held (source_records ss)
unfolding Each source_records
sources-held [] each = record {}
sources-held (s ∷ ss) each =
    let r : SourceRanged s = each.0 in
    let f : Word s.flag = omega arith in (
      record {
        told = r.flag_small;
        words = six_words _ _ _ _ _ _ (omega arith) r.address_word f r.id_word r.offset_word r.size_word;
      },
      sources-held ss each.1,
    )

-- the places and the pages of dirty runs are words where the length of the page file is one
dirty-held : (place : ℕ) (ds : List DirtyRun) → place * page_size + length (contents ds) < 2 ^ 64 → Each DirtyRanged ds
    → Each Held (dirty_records place ds)
unfolding Each dirty_records contents
dirty-held place [] h each = record {}
dirty-held place (d ∷ ds) h each =
    let r : DirtyRanged d = each.0 in
    let w : length d.content % page_size ≡ 0 = r.whole in
    let k : place * page_size + (length d.content + length (contents ds)) < 2 ^ 64 = rw length-append at h in
    let f : Word d.flag = omega (arith, r.flag_small) in
    let p : Word (pages_of d) = omega arith in (
      record {
        told = r.flag_small;
        words = six_words _ _ _ _ _ _ (omega arith) r.address_word f p (omega arith) (omega arith);
      },
      dirty-held (place + pages_of d) ds (omega arith) each.1,
    )

pub ranged_held : (s : Snapshot) → Ranged s → Each Held (records_of s)
unfolding Each page_file_of
ranged_held s r =
    let q : Each Held (source_records s.sources ++ dirty_records 0 s.dirty) =
    each_append
    Held
    (source_records s.sources)
    _
    (sources-held s.sources r.sources_ranged)
    (dirty-held 0 s.dirty (omega (arith, r.pages_word)) r.dirty_ranged) in
    let v : Word s.state.version = omega (arith, r.version_small) in (
      record {
        told = r.version_small;
        words = six_words _ _ _ _ _ _ (omega arith) v r.pc_word r.cycles_word r.maximum_word r.reservation_word;
      },
      each_append
          Held
          (register_records_of s.registers 0 register_records)
          _
          (registers-held s.registers 0 register_records (omega arith) r.register_words)
          q,
    )

dirty-whole : (ds : List DirtyRun) → Each DirtyRanged ds → Each Whole ds
unfolding Each
dirty-whole [] each = record {}
dirty-whole (d ∷ ds) each = (each.0.whole, dirty-whole ds each.1)

pub ranged_shaped : (s : Snapshot) → Ranged s → Shaped s
ranged_shaped s r = record { registers_are = r.registers_are; whole = dirty-whole s.dirty r.dirty_ranged }

-- ---- a snapshot is in range if a file can hold its records

registers_ranged : (registers : List ℕ) (next n : ℕ) → next + registers_a_record * n ≡ length registers
    → Each Held (register_records_of registers next n) → Each Word (drop next registers)
unfolding Each register_records_of
registers_ranged registers next zero h each = let e : next ≡ length registers = omega arith in rw (e, drop-length) (record {})
registers_ranged registers next (suc n) h each =
    let r : Record =
    Registers next (get_or registers next 0) (get_or registers (next + 1) 0) (get_or registers (next + 2) 0) (get_or registers (next + 3) 0) in
    let w : (i : ℕ) → Word (get_or (words_of r) i 0) = λ i. word_at (words_of r) i each.0.words in
    let q : Each Word (drop (next + registers_a_record) registers) =
    registers_ranged registers (next + registers_a_record) n (omega arith) each.1 in
    rw (four_more registers next (omega arith)) (w 2, (w 3, (w 4, (w 5, q))))

sources_ranged : (ss : List SourceRun) → Each Held (source_records ss) → Each SourceRanged ss
unfolding Each source_records
sources_ranged [] each = record {}
sources_ranged (s ∷ ss) each =
    let r : Record = Source s.address s.flag s.id s.offset s.size in
    let w : (i : ℕ) → Word (get_or (words_of r) i 0) = λ i. word_at (words_of r) i each.0.words in (
      record { address_word = w 1; flag_small = each.0.told; id_word = w 3; offset_word = w 4; size_word = w 5 },
      sources_ranged ss each.1,
    )

dirty_ranged : (place : ℕ) (ds : List DirtyRun) → Each Held (dirty_records place ds) → Each Whole ds → Each DirtyRanged ds
unfolding Each dirty_records
dirty_ranged place [] each whole = record {}
dirty_ranged place (d ∷ ds) each whole =
    let r : Record = Dirty d.address d.flag (pages_of d) place in (
      record { address_word = word_at (words_of r) 1 each.0.words; flag_small = each.0.told; whole = whole.0 },
      dirty_ranged (place + pages_of d) ds each.1 whole.1,
    )

pub held_ranged : (s : Snapshot) → Shaped s → Each Held (records_of s)
    → least_records + (length s.sources + length s.dirty) ≤ most_records → Word (length (page_file_of s)) → Ranged s
unfolding Each
held_ranged s shaped each few pages =
    let k : Held (state_record s.state) = each.0 in
    let w : (i : ℕ) → Word (get_or (words_of (state_record s.state)) i 0) = λ i. word_at (words_of (state_record s.state)) i k.words in
    let registers : List Record = register_records_of s.registers 0 register_records in
    let sources : List Record = source_records s.sources in
    let dirty : List Record = dirty_records 0 s.dirty in
    let runs : Each Held (sources ++ dirty) = each_right Held registers (sources ++ dirty) each.1 in
    record {
      version_small = k.told;
      pc_word = w 2;
      cycles_word = w 3;
      maximum_word = w 4;
      reservation_word = w 5;
      registers_are = shaped.registers_are;
      register_words =
          registers_ranged s.registers 0 register_records (sym shaped.registers_are) (each_left Held registers (sources ++ dirty) each.1);
      sources_ranged = sources_ranged s.sources (each_left Held sources dirty runs);
      dirty_ranged = dirty_ranged 0 s.dirty (each_right Held sources dirty runs) shaped.whole;
      few = few;
      pages_word = pages;
    }
