-- A snapshot of a machine is in range: it has no more records than pages and nine, every number fits its place in a record, and so
-- its files read back to it.
use mathlib.Core.Path.{◌≡◌, refl, ap, ◌∙◌, subst}
use mathlib.Core.Bool.{Bool, true, false}
use mathlib.Core.List.{List, [], ◌∷◌, map}
use Prim.Native.Nat.{ℕ, zero, suc, ◌+◌, ◌*◌, ◌/◌, ◌≤◌, ◌<◌}
use native.Mathlib.Decide.{ℕ_discrete}
use native.Mathlib.Omega.{arith}
use lib.Bits.{bit_and}
use lib.Dec.{eqb, ltb}
use lib.ListN.{length, get_or}
use borrow.Author.Tests.{eq-eqb, eqb-true, leb-true}
use Rattle.bits.specs.Rounding.{page_size}
use Rattle.words.specs.Bytes.{part, written}
use Rattle.words.specs.LittleEndian.{Small}
use Rattle.words.proofs.Written.{part-written}
use Rattle.program.specs.Program.{run}
use Rattle.memory.specs.Pages.{dirty, maximum}
use Rattle.memory.specs.Storage.{Fitting}
use Rattle.memory.proofs.StoreCases.{cases}
use Rattle.machine.specs.declared.Machine.{Machine}
use Rattle.machine.specs.Fresh.{LentMachine, record_words}
use Rattle.machine.specs.Numbers.{general_registers, machine_of}
use Rattle.recordfile.specs.Words.{record_bytes}
use Rattle.recordfile.specs.Records.{versions, flag_values}
use Rattle.recordfile.specs.Form.{least_records, in_form}
use Rattle.recordfile.specs.Snapshots.{SourceRun, Snapshot, records_of, file_of, page_file_of, snapshot_in, Word, Each, SourceRanged, DirtyRanged, Ranged}
use Rattle.recordfile.proofs.RoundTrip.{read_back}
use Rattle.tracking.specs.declared.records.Tracking.{Tracking}
use Rattle.tracking.specs.declared.records.Tracking.TheVariants.{Untracked, Tracked}
use Rattle.tracking.specs.Records.{tracked_mark, record_of}
use Rattle.tracking.specs.Operations.{masked, entry_in, fits_all, machine_does}
use Rattle.tracking.proofs.Lengths.{memory-told}
use Rattle.snapshot.specs.Runs.{Run, a_run, continues, page_run, flag_at, dirty_from, sources_from, total}
use Rattle.snapshot.specs.MakeSnapshot.{Made, not_made, holds, laid_out, make_snapshot}
use Rattle.snapshot.specs.Answers.{lent_of, tally, read_out, dirty_out, snapshot_now}
use Rattle.snapshot.specs.Walk.{joined, meets, both, both_sources}
use Rattle.snapshot.proofs.Joining.{all_true}
use Rattle.snapshot.proofs.DirtyPages as dirty-pages
use Rattle.snapshot.proofs.SourcePages as source-pages
use Rattle.snapshot.proofs.Merged.{runs_bound, records_bound}
use Rattle.snapshot.proofs.TakenNow.{made_unfit, made-unmet, made-now}
use Rattle.snapshot.proofs.Writing.{length-content}
use Rattle.snapshot.proofs.Answered.{length-pages, length-dirty, length-records, length-file, out-short, out-held}

-- ---- neighbours merged

-- what holds of both of two that meet, and of what they make, holds of all
each-joined : {R : Type 0} (meets : R → R → Bool) (both : R → R → R) (P : R → Type 0)
    → ((a b : R) → meets a b ≡ true → P a → P b → P (both a b)) → (r : R) (l : List R) → P r → Each P l → Each P (joined meets both r l)
unfolding joined Each
each-joined meets both P make r [] h each = (h, record {})
each-joined meets both P make r (s ∷ l) h each =
    cases (Each P) (meets r s) (both r s ∷ l) (r ∷ s ∷ l) (λ e. (make r s e h each.0, each.1)) (λ e. (h, each))

-- ---- source runs

-- a run of tracked pages of so many
pub record SourceFits (pages : ℕ) (r : SourceRun) : Type 0 where
  pub within : r.address + r.size ≤ pages * page_size
  pub flag_small : r.flag < flag_values
  pub id_word : Word r.id
  pub offset_word : Word r.offset

source-made : (pages : ℕ) (a b : SourceRun) → continues a b ≡ true → SourceFits pages a → SourceFits pages b
    → SourceFits pages (both_sources a b)
unfolding continues
source-made pages a b e f g =
    let q : b.address ≡ a.address + a.size = eqb-true _ _ (all_true _ _ e).0 in
    record { within = omega (arith, g.within); flag_small = f.flag_small; id_word = f.id_word; offset_word = f.offset_word }

module _ (flags records : List ℕ) (words : (i : ℕ) → Word (get_or records i 0)) where
  -- what a page's entry says is in range
  abbrev Told : Tracking → Type 0
  Told Untracked = Unit {0}
  Told (Tracked id offset flag) = (Word id) × (Word offset) × (flag < flag_values)

  entry-told : (p : ℕ) → Told (entry_in flags records p)
  unfolding masked record_of
  entry-told p =
      cases Told (eqb (bit_and (get_or flags p 0) dirty) 0) _ _
      (λ e.
      cases Told (ltb (get_or records (p * record_words + 2) 0) tracked_mark) _ _ (λ d. record {})
      (λ d. (words (p * record_words), words (p * record_words + 1), omega arith)))
      (λ e. record {})

  source-joined : (p : ℕ) → p < length flags → (t : Tracking) → entry_in flags records p ≡ t → Told t
      → Each (SourceFits (length flags)) (sources_from flags records (p + 1)) → Each (SourceFits (length flags)) (sources_from flags records p)
  source-joined p h Untracked q w each = rw (source-pages.sources_untracked flags records p h q) each
  source-joined p h (Tracked id offset flag) q w each =
      rw (source-pages.sources_joins flags records p h id offset flag q, source-pages.join_is (page_run p flag id offset) _)
      (each-joined continues both_sources (SourceFits (length flags)) (source-made (length flags)) (page_run p flag id offset) _
      (record { within = omega arith; flag_small = w.2; id_word = w.0; offset_word = w.1 })
      each)

  sources-from : (n p : ℕ) → p + n ≡ length flags → Each (SourceFits (length flags)) (sources_from flags records p)
  unfolding Each
  sources-from zero p e = rw (source-pages.sources_past flags records p (omega arith)) (record {})
  sources-from (suc n) p e =
      source-joined p (omega arith) (entry_in flags records p) refl (entry-told p) (sources-from n (p + 1) (omega arith))

  pub sources-fit : Each (SourceFits (length flags)) (sources_from flags records 0)
  sources-fit = sources-from (length flags) 0 (omega arith)

-- ---- dirty runs

-- a run of pages of so many
pub record DirtyFits (pages : ℕ) (r : Run) : Type 0 where
  pub within : r.page + r.pages ≤ pages
  pub flag_small : r.flag < flag_values

dirty-made : (pages : ℕ) (a b : Run) → meets a b ≡ true → DirtyFits pages a → DirtyFits pages b
    → DirtyFits pages (both a b)
dirty-made pages a b e f g =
    let q : b.page ≡ a.page + a.pages = eqb-true _ _ (all_true _ _ e).0 in
    record { within = omega (arith, g.within); flag_small = f.flag_small }

-- merging keeps the number of pages
total-joined : (r : Run) (l : List Run) → total (joined meets both r l) ≡ r.pages + total l
unfolding joined total
total-joined r [] = refl
total-joined r (s ∷ l) =
    cases (λ (x : List Run). total x ≡ r.pages + total (s ∷ l)) (meets r s) (both r s ∷ l) (r ∷ s ∷ l)
    (λ e. omega arith) (λ e. refl)

-- so many pages of dirty runs
pub record Fits (size pages : ℕ) (rs : List Run) : Type 0 where
  pub each : Each (DirtyFits size) rs
  pub in_all : total rs ≤ pages

module _ (flags : List ℕ) (small : Small flags) where
  page-fits : (n p : ℕ) → p < length flags → Dec (bit_and (flag_at flags p) dirty ≡ 0) → Fits (length flags) n (dirty_from flags (p + 1))
      → Fits (length flags) (suc n) (dirty_from flags p)
  page-fits n p h (yes z) g = rw (dirty-pages.dirty_clean flags p h z) (record { each = g.each; in_all = omega (arith, g.in_all) })
  page-fits n p h (no d) g =
      let r : Run = a_run p (flag_at flags p) 1 in
      rw (dirty-pages.dirty_joins flags p h d, dirty-pages.join_is p (flag_at flags p) _)
      (record {
        each =
            each-joined meets both (DirtyFits (length flags)) (dirty-made (length flags)) r _
            (record { within = omega arith; flag_small = small p })
            g.each;
        in_all = omega (arith, total-joined r (dirty_from flags (p + 1)), g.in_all);
      })

  dirty-from : (n p : ℕ) → p + n ≡ length flags → Fits (length flags) n (dirty_from flags p)
  unfolding Each total
  dirty-from zero p e = rw (dirty-pages.dirty_past flags p (omega arith)) (record { each = record {}; in_all = omega arith })
  dirty-from (suc n) p e =
      page-fits n p (omega arith) (ℕ_discrete (bit_and (flag_at flags p) dirty) 0) (dirty-from n (p + 1) (omega arith))

  pub dirty-fit : Fits (length flags) (length flags) (dirty_from flags 0)
  dirty-fit = dirty-from (length flags) 0 (omega arith)

-- ---- a snapshot in range

-- what the types of a machine and of the lists that are lent to it say: flags are bytes, records are words, the version has 32 bits,
-- the other numbers 64, and there are 32 registers
pub record Typed (flags records : List ℕ) (m : Machine) : Type 0 where
  pub flag_bytes : Small flags
  pub record_word : (i : ℕ) → Word (get_or records i 0)
  pub version_small : m.version < versions
  pub pc_word : Word m.pc
  pub cycles_word : Word m.cycles
  pub maximum_word : Word m.max_cycles
  pub reservation_word : Word m.memory.reservation
  pub registers_are : length m.registers ≡ general_registers
  pub register_words : (i : ℕ) → Word (get_or m.registers i 0)

each_word : (l : List ℕ) → ((i : ℕ) → Word (get_or l i 0)) → Each Word l
unfolding Each
each_word [] w = record {}
each_word (x ∷ l) w = (w 0, each_word l (λ i. w (suc i)))

sources_ranged : (pages : ℕ) (rs : List SourceRun) → pages * page_size ≤ maximum → Each (SourceFits pages) rs → Each SourceRanged rs
unfolding Each
sources_ranged pages [] h each = record {}
sources_ranged pages (r ∷ rs) h each =
    let f : SourceFits pages r = each.0 in
    let w : r.address + r.size ≤ pages * page_size = f.within in (
      record {
        address_word = omega arith;
        flag_small = f.flag_small;
        id_word = f.id_word;
        offset_word = f.offset_word;
        size_word = omega arith;
      },
      sources_ranged pages rs h each.1,
    )

dirty_ranged : (slots area : List ℕ) (pages : ℕ) (rs : List Run) → pages * page_size ≤ maximum → Each (DirtyFits pages) rs
    → Each DirtyRanged (map (read_out slots area) rs)
unfolding Each
dirty_ranged slots area pages [] h each = record {}
dirty_ranged slots area pages (r ∷ rs) h each =
    let f : DirtyFits pages r = each.0 in
    let w : r.page + r.pages ≤ pages = f.within in
    let l : length (read_out slots area r).content ≡ r.pages * page_size = length-content slots area r.page r.flag r.pages in (
      record { address_word = omega arith; flag_small = f.flag_small; whole = omega arith },
      dirty_ranged slots area pages rs h each.1,
    )

module _ (slots flags area records : List ℕ) (m : Machine) where
  abbrev now : Snapshot
  now = snapshot_now slots flags area records m

  module _ (fit : Fitting (length slots) (length flags) (length area) m.memory) where
    few-pages : length flags * page_size ≤ maximum
    few-pages = omega (arith, fit.flags_are, fit.small)

    -- no more than "1,033 records"
    pub ranged-now : Typed flags records m → Ranged now
    unfolding dirty_out
    ranged-now t =
        let d : Fits (length flags) (length flags) (dirty_from flags 0) = dirty-fit flags t.flag_bytes in
        record {
          version_small = t.version_small;
          pc_word = t.pc_word;
          cycles_word = t.cycles_word;
          maximum_word = t.maximum_word;
          reservation_word = omega (arith, t.reservation_word);
          registers_are = t.registers_are;
          register_words = each_word m.registers t.register_words;
          sources_ranged = sources_ranged (length flags) _ few-pages (sources-fit flags records t.record_word);
          dirty_ranged = dirty_ranged slots area (length flags) _ few-pages d.each;
          few = omega (arith, few-pages, runs_bound flags records, length-dirty slots flags area records m);
          pages_word = omega (arith, few-pages, length-pages slots flags area records m, d.in_all);
        }

  -- ---- the call

  module _ (file pages : ℕ) where
    abbrev made : Made
    made = (run machine_does (make_snapshot file pages) (lent_of slots flags area records m)).0

    -- what is made of it whole
    abbrev whole : Made
    whole =
        record {
          number = 0;
          records = length (records_of now);
          pages = length (page_file_of now) / page_size;
          file = file_of now;
          body = page_file_of now;
        }

    -- a refusal, or the whole of a machine whose lengths are right
    module _ (P : Made → Type 0) (no : (n : ℕ) → (n ≡ 0 → ⊥) → P (not_made n))
        (yes : Fitting (length slots) (length flags) (length area) m.memory → holds file pages now ≡ true → P whole) where
      abbrev all_fit : Bool
      all_fit = fits_all (length slots) (length flags) (length area) (length records) m.memory

      abbrev slots-met : ℕ
      slots-met = (tally slots m.memory.used 0 0 (dirty_from flags 0)).number

      laid_cases : Fitting (length slots) (length flags) (length area) m.memory → (h : Bool) → holds file pages now ≡ h
          → P (laid_out file pages now)
      laid_cases f true e = subst P (out-held file pages now e) (yes f e)
      laid_cases f false e = subst P (out-short file pages now e) (no 8 (λ z. omega arith))

      met_cases : true ≡ all_fit → (d : Bool) → d ≡ eqb slots-met 0 → P made
      met_cases f true e =
          subst P
          (ap (λ (x : Made × LentMachine). x.0) (made-now slots flags area records m true f file pages refl slots-met true refl e refl))
          (laid_cases (memory-told _ _ _ _ _ true f refl) (holds file pages now) refl)
      met_cases f false e =
          subst P
          (ap (λ (x : Made × LentMachine). x.0) (made-unmet slots flags area records m true f file pages refl slots-met false refl e refl))
          (no slots-met (λ z. let y : false ≡ true = e ∙ eq-eqb slots-met 0 z in let x : ◌≡◌ {A = ℕ} 0 1 = cc in omega arith))

      made_cases : (b : Bool) → b ≡ all_fit → P made
      made_cases true f = met_cases f (eqb slots-met 0) refl
      made_cases false f =
          subst P (ap (λ (x : Made × LentMachine). x.0) (made_unfit slots flags area records m false f file pages refl))
          (no 9 (λ z. omega arith))

      made-either : P made
      made-either = made_cases all_fit refl

    -- THE FILES OF A SNAPSHOT READ BACK TO IT
    pub made_reads_back : Typed flags records m → made.number ≡ 0
        → (in_form made.file (length made.body) ≡ 0) × (snapshot_in made.file made.body ≡ now)
    made_reads_back t =
        made-either
        (λ (x : Made). x.number ≡ 0 → (in_form x.file (length x.body) ≡ 0) × (snapshot_in x.file x.body ≡ now))
        (λ n z e. absurd (z e))
        (λ f h e. read_back now (ranged-now f t))

  -- THEY STAND AT THE FRONT OF THE OUTPUTS: "the answer is the number of records and of pages"
  pub fronts_are : (file pages : List ℕ) → (made (length file) (length pages)).number ≡ 0
      → (part (written file 0 (made (length file) (length pages)).file) 0 ((made (length file) (length pages)).records * record_bytes)
      ≡ (made (length file) (length pages)).file)
      × (part (written pages 0 (made (length file) (length pages)).body) 0 ((made (length file) (length pages)).pages * page_size)
      ≡ (made (length file) (length pages)).body)
  unfolding holds
  fronts_are file pages =
      made-either (length file) (length pages)
      (λ (x : Made). x.number ≡ 0
      → (part (written file 0 x.file) 0 (x.records * record_bytes) ≡ x.file)
      × (part (written pages 0 x.body) 0 (x.pages * page_size) ≡ x.body))
      (λ n z e. absurd (z e))
      (λ f h e.
      let r = all_true _ _ h in
      let a : length (file_of now) ≤ length file = leb-true _ _ r.0 in
      let b : length (page_file_of now) ≤ length pages = leb-true _ _ r.1 in
      let c : length (records_of now) * record_bytes ≡ length (file_of now) =
      omega (arith, length-records slots flags area records m, length-file slots flags area records m) in
      let d : length (page_file_of now) / page_size * page_size ≡ length (page_file_of now) = omega (arith, length-pages slots flags area records m) in
      (rw c (part-written file (file_of now) 0 (omega arith)), rw d (part-written pages (page_file_of now) 0 (omega arith))))

-- "There are at most 9 + pages records."
pub few-records : (file pages : ℕ) (s : LentMachine)
    → (run machine_does (make_snapshot file pages) s).0.records ≤ least_records + length s.0.0.flags
few-records file pages s =
    let m : Machine = machine_of s.1 s.0.0.memory in
    made-either s.0.0.slots s.0.0.flags s.0.0.area s.0.1 m file pages
    (λ (x : Made). x.records ≤ least_records + length s.0.0.flags)
    (λ n z. omega arith)
    (λ f h. records_bound s.0.0.flags s.0.1 s.0.0.slots s.0.0.area m)
