-- The form of a file, record by record: register records, source runs, dirty runs. In each loop the records that are left come to
-- what all of them come to.
use Rattle.std.proofs.Common.{◌≡◌, refl, sym, ◌∙◌, cond, Bool, true, false, List, [], ◌∷◌, ℕ, suc, ◌+◌, ◌*◌, ◌-◌, ◌^◌, ◌≤◌, ◌<◌, eqb, arith}
use Rattle.std.specs.Prelude.{Ok, Err, Option, Some, None, SomeIff}
use borrow.Author.Tests.{lt-ltb, le-ltb, eq-eqb, ne_eqb}
use types.Run.{OneOf, miss}
use denote.Enum.Declared.{tag_of}
use Rattle.outcome.specs.declared.Refusal.TheVariants.{BadRecordFile}
use Rattle.recordfile.specs.Form.{malformed, register_records, registers_a_record, dirty_needs, runs_need, registers_need, records_need, capped}
use Rattle.recordfile.specs.Form as forms
use Rattle.recordfile.specs.declared.Record.{Record}
use Rattle.recordfile.specs.declared.Record.TheVariants.{State, Registers, Source, Dirty, Bad}
use Rattle.recordfile.specs.contracts.Record.{the_type}

-- ---- a record of another kind: its tag is one of the others
abbrev pub NotState : Record → Type 0
NotState r = OneOf (1 ∷ 2 ∷ 3 ∷ 4 ∷ []) (tag_of the_type r)

abbrev pub NotRegisters : Record → Type 0
NotRegisters r = OneOf (0 ∷ 2 ∷ 3 ∷ 4 ∷ []) (tag_of the_type r)

pub no-state : (r : Record) (rs : List Record) → NotState r → records_need (r ∷ rs) ≡ malformed
unfolding records_need
no-state (State version pc cycles maximum reservation) rs t = absurd (miss (1 ∷ 2 ∷ 3 ∷ 4 ∷ []) 0 tt t)
no-state (Registers first one two three four) rs t = refl
no-state (Source address flag id offset size) rs t = refl
no-state (Dirty address flag pages place) rs t = refl
no-state Bad rs t = refl

no-registers : (r : Record) (rs : List Record) (next n : ℕ) → NotRegisters r → registers_need next (suc n) (r ∷ rs) ≡ malformed
unfolding registers_need
no-registers (State version pc cycles maximum reservation) rs next n t = refl
no-registers (Registers first one two three four) rs next n t = absurd (miss (0 ∷ 2 ∷ 3 ∷ 4 ∷ []) 1 tt t)
no-registers (Source address flag id offset size) rs next n t = refl
no-registers (Dirty address flag pages place) rs next n t = refl
no-registers Bad rs next n t = refl

-- ---- register records, of which i stand
module _ (whole : List Record) where
  -- those that are left come to what all come to
  pub record RegistersTo (rs : List Record) (i : ℕ) : Type 0 where
    pub within : i ≤ register_records
    pub all : registers_need (i * registers_a_record) (register_records - i) rs ≡ registers_need 0 register_records whole

  pub registers-start : RegistersTo whole 0
  registers-start = record { within = omega arith; all = refl }

  module _ (rs : List Record) (i : ℕ) (w : RegistersTo rs i) where
    pub registers-none : i < register_records → rs ≡ [] → registers_need 0 register_records whole ≡ malformed
    unfolding registers_need
    registers-none h e =
        let k : register_records - i ≡ suc (register_records - (i + 1)) = omega arith in
        sym (rw (k, e) at w.all)

    module _ (h : i < register_records) (r : Record) (ts : List Record) (e : rs ≡ r ∷ ts) where
      -- the next record and the rest
      registers-turn : registers_need 0 register_records whole
          ≡ registers_need (i * registers_a_record) (suc (register_records - (i + 1))) (r ∷ ts)
      registers-turn =
          let k : register_records - i ≡ suc (register_records - (i + 1)) = omega arith in
          sym (rw (k, e) at w.all)

      pub registers-other : NotRegisters r → registers_need 0 register_records whole ≡ malformed
      registers-other t = registers-turn ∙ no-registers r _ _ _ t

      module _ (first one two three four : ℕ) (q : r ≡ Registers first one two three four) where
        registers-one : registers_need 0 register_records whole
            ≡ cond (eqb first (i * registers_a_record)) (registers_need (i * registers_a_record + registers_a_record) (register_records - (i + 1)) ts) malformed
        unfolding registers_need
        registers-one = rw q at registers-turn

        pub registers-apart : (first ≡ i * registers_a_record → ⊥) → registers_need 0 register_records whole ≡ malformed
        registers-apart n = rw (ne_eqb _ _ n) at registers-one

        pub registers-next : first ≡ i * registers_a_record → RegistersTo ts (i + 1)
        registers-next f =
            let k : i * registers_a_record + registers_a_record ≡ (i + 1) * registers_a_record = omega arith in
            record { within = omega arith; all = sym (rw (eq-eqb _ _ f, k) at registers-one) }

    pub registers-end : register_records ≤ i → registers_need 0 register_records whole ≡ runs_need rs
    unfolding registers_need
    registers-end h =
        let k : i ≡ register_records = omega (arith, w.within) in
        sym (rw k at w.all)

-- ---- source runs, then dirty runs

-- a sum as the code has it: none past the words
abbrev pub Sums : Option ℕ → ℕ → Type 0
Sums (Some n) total = (n ≡ total) × (total < 2 ^ 64)
Sums None total = 2 ^ 64 ≤ total

-- what records need once a dirty run was met or not
abbrev pub needed : Bool → ℕ → List Record → forms.Form
needed false total rs = runs_need rs
needed true total rs = dirty_needs total rs

abbrev pub NotRun : Record → Type 0
NotRun r = ((address flag id offset size : ℕ) → r ≡ Source address flag id offset size → ⊥)
    × ((address flag pages place : ℕ) → r ≡ Dirty address flag pages place → ⊥)

no_run : (dirty : Bool) (total : ℕ) (r : Record) (ts : List Record) → NotRun r → needed dirty total (r ∷ ts) ≡ malformed
unfolding runs_need dirty_needs
no_run false total (State version pc cycles maximum reservation) ts n = refl
no_run false total (Registers first one two three four) ts n = refl
no_run false total (Source address flag id offset size) ts n = absurd (n.0 _ _ _ _ _ refl)
no_run false total (Dirty address flag pages place) ts n = absurd (n.1 _ _ _ _ refl)
no_run false total Bad ts n = refl
no_run true total (State version pc cycles maximum reservation) ts n = refl
no_run true total (Registers first one two three four) ts n = refl
no_run true total (Source address flag id offset size) ts n = absurd (n.0 _ _ _ _ _ refl)
no_run true total (Dirty address flag pages place) ts n = absurd (n.1 _ _ _ _ refl)
no_run true total Bad ts n = refl

late : (total address flag id offset size : ℕ) (ts : List Record) → dirty_needs total (Source address flag id offset size ∷ ts) ≡ malformed
unfolding dirty_needs
late total address flag id offset size ts = refl

early : (total address flag id offset size : ℕ) (ts : List Record) → needed false total (Source address flag id offset size ∷ ts) ≡ needed false total ts
unfolding runs_need
early total address flag id offset size ts = refl

a_run : (dirty : Bool) (total address flag pages place : ℕ) (ts : List Record) → (dirty ≡ false → total ≡ 0)
    → needed dirty total (Dirty address flag pages place ∷ ts) ≡ cond (eqb place total) (dirty_needs (total + pages) ts) malformed
unfolding runs_need dirty_needs
a_run false total address flag pages place ts z = let k : total ≡ 0 = z refl in rw k refl
a_run true total address flag pages place ts z = refl

ends : (dirty : Bool) (total : ℕ) → (dirty ≡ false → total ≡ 0) → needed dirty total [] ≡ forms.needs total
unfolding runs_need dirty_needs
ends false total z = let k : total ≡ 0 = z refl in rw k refl
ends true total z = refl

sum-ends : (sum : Option ℕ) (total : ℕ) → Sums sum total → Ok sum ≡ capped (forms.needs total)
sum-ends (Some n) total s = rw (lt-ltb total (2 ^ 64) s.1, s.0) refl
sum-ends None total s = rw (le-ltb total (2 ^ 64) s) refl

sum-more : (sum : Option ℕ) (place pages : ℕ) → SomeIff sum (place + pages < 2 ^ 64) (place + pages) → Sums sum (place + pages)
sum-more (Some n) place pages s = (s.1, s.0)
sum-more None place pages s = omega (arith, s)

module _ (whole : List Record) where
  -- the runs that are left, after so many pages, come to what all of them come to
  pub record RunsTo (rs : List Record) (dirty : Bool) (sum : Option ℕ) : Type 0 where
    pub total : ℕ
    pub sums : Sums sum total
    pub zero_before : dirty ≡ false → total ≡ 0
    pub all : needed dirty total rs ≡ runs_need whole

  module _ (rs : List Record) (dirty : Bool) (sum : Option ℕ) (w : RunsTo rs dirty sum) where
    pub runs-end : rs ≡ [] → Ok sum ≡ capped (runs_need whole)
    runs-end e =
        let k : needed dirty w.total [] ≡ runs_need whole = rw e at w.all in
        rw (← k, ends dirty w.total w.zero_before) (sum-ends sum w.total w.sums)

    module _ (r : Record) (ts : List Record) (e : rs ≡ r ∷ ts) where
      runs-turn : needed dirty w.total (r ∷ ts) ≡ runs_need whole
      runs-turn = rw e at w.all

      pub runs-other : NotRun r → Err BadRecordFile ≡ capped (runs_need whole)
      runs-other n = rw (← runs-turn, no_run dirty w.total r ts n) refl

      module _ (address flag id offset size : ℕ) (q : r ≡ Source address flag id offset size) where
        pub runs-late : dirty ≡ true → Err BadRecordFile ≡ capped (runs_need whole)
        runs-late d =
            let k : dirty_needs w.total (Source address flag id offset size ∷ ts) ≡ runs_need whole = rw (d, q) at runs-turn in
            rw (← k, late w.total address flag id offset size ts) refl

        pub runs-source : dirty ≡ false → RunsTo ts dirty sum
        runs-source d =
            let k : needed false w.total (Source address flag id offset size ∷ ts) ≡ runs_need whole = rw (d, q) at runs-turn in
            let z : needed dirty w.total ts ≡ runs_need whole = rw d (sym (early w.total address flag id offset size ts) ∙ k) in
            record { total = w.total; sums = w.sums; zero_before = w.zero_before; all = z }

      module _ (address flag pages place : ℕ) (q : r ≡ Dirty address flag pages place) where
        runs-one : runs_need whole ≡ cond (eqb place w.total) (dirty_needs (w.total + pages) ts) malformed
        runs-one = sym (rw q at runs-turn) ∙ a_run dirty w.total address flag pages place ts w.zero_before

        pub runs-past : place < 2 ^ 64 → sum ≡ None → Err BadRecordFile ≡ capped (runs_need whole)
        runs-past h n =
            let k : 2 ^ 64 ≤ w.total = rw n at w.sums in
            rw (runs-one, ne_eqb place w.total (λ p. omega (arith, h, k, p))) refl

        module _ (before : ℕ) (b : sum ≡ Some before) where
          sum-is : (before ≡ w.total)
          sum-is = (let y : Sums (Some before) w.total = rw b at w.sums in y.0)

          pub runs-apart : (place ≡ before → ⊥) → Err BadRecordFile ≡ capped (runs_need whole)
          runs-apart n = rw (runs-one, ne_eqb place w.total (λ p. n (p ∙ sym sum-is))) refl

          pub runs-next : place ≡ before → (more : Option ℕ) → SomeIff more (before + pages < 2 ^ 64) (before + pages) → RunsTo ts true more
          runs-next t more s =
              let p : place ≡ w.total = t ∙ sum-is in
              let k : runs_need whole ≡ dirty_needs (w.total + pages) ts = rw (eq-eqb place w.total p) at runs-one in
              let z : dirty_needs (before + pages) ts ≡ runs_need whole = rw sum-is (sym k) in
              record { total = before + pages; sums = sum-more more before pages s; zero_before = λ d. absurd (let y : true ≡ false = d in cc); all = z }
