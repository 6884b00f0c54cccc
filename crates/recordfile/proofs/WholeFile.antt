-- The form of a whole file, test by test, and its number beside a page file.
use Rattle.std.proofs.Common.{◌≡◌, refl, sym, ◌∙◌, cond, Bool, true, false, List, [], ◌∷◌, ℕ, ◌*◌, ◌/◌, ◌%◌, ◌^◌, ◌≤◌, ◌<◌, length, eqb, arith, Bor}
use Rattle.std.specs.Prelude.{Result, Ok, Err, Option, Some, None}
use Rattle.std.specs.Option.{option_eq}
use native.Mathlib.Nat.{sub-zero}
use native.Mathlib.Decide.{dec_lt}
use borrow.Author.Tests.{lt-ltb, le-ltb, le-leb, lt-leb, eq-eqb, ne_eqb, eqb-true}
use Rattle.bits.specs.Rounding.{page_size}
use Rattle.outcome.specs.Numbers.{refusal_number}
use Rattle.outcome.specs.declared.Refusal.{Refusal}
use Rattle.outcome.specs.declared.Refusal.TheVariants.{BadRecordFile}
use Rattle.recordfile.specs.Words.{record_bytes}
use Rattle.recordfile.specs.Records.{count_in, records_in}
use Rattle.recordfile.specs.Reader.{left}
use Rattle.recordfile.specs.Form.{Form, malformed, needs, least_records, most_records, register_records, runs_need, registers_need, records_need, judged, beside, in_form, capped}
use Rattle.recordfile.specs.declared.Record.{Record}
use Rattle.recordfile.specs.declared.Record.TheVariants.{State}
use Rattle.recordfile.specs.declared.reader.Reader.{Reader}
use Rattle.recordfile.proofs.Judging.{NotState, no-state}

-- a reader at the first record has all of them left
pub left-all : (file : Bor (List ℕ)) (r : Reader) → r.file ≡ file → r.at ≡ 0 → left r ≡ records_in file.now
left-all file r e f = rw (e, f, sub-zero) refl

-- ---- the whole file
module _ (file : List ℕ) where
  pub judged-cut : (length file % record_bytes ≡ 0 → ⊥) → Err BadRecordFile ≡ capped (judged file)
  unfolding judged
  judged-cut n = rw (ne_eqb (length file % record_bytes) 0 n)

  module _ (whole : length file % record_bytes ≡ 0) where
    pub judged-few : count_in file < least_records → Err BadRecordFile ≡ capped (judged file)
    unfolding judged
    judged-few h = rw (eq-eqb _ _ whole, lt-leb least_records (count_in file) h)

    module _ (least : least_records ≤ count_in file) where
      pub judged-many : most_records < count_in file → Err BadRecordFile ≡ capped (judged file)
      unfolding judged
      judged-many h = rw (eq-eqb _ _ whole, le-leb least_records (count_in file) least, lt-leb (count_in file) most_records h)

      module _ (most : count_in file ≤ most_records) (rs : List Record) (a : rs ≡ records_in file) where
        judged-all : judged file ≡ records_need rs
        unfolding judged
        judged-all = rw (eq-eqb _ _ whole, le-leb least_records (count_in file) least, le-leb (count_in file) most_records most, a)

        pub judged-none : rs ≡ [] → Err BadRecordFile ≡ capped (judged file)
        unfolding records_need
        judged-none e = rw (judged-all, e) refl

        module _ (r : Record) (ts : List Record) (e : rs ≡ r ∷ ts) where
          pub judged-other : NotState r → Err BadRecordFile ≡ capped (judged file)
          judged-other t = rw (judged-all, e, no-state r ts t) refl

          module _ (version pc cycles maximum reservation : ℕ) (q : r ≡ State version pc cycles maximum reservation)
              (b : Bool) (us : List Record) (registers : registers_need 0 register_records ts ≡ cond b (runs_need us) malformed) where
            judged-state : judged file ≡ cond b (runs_need us) malformed
            unfolding records_need
            judged-state = (rw (e, q) at judged-all) ∙ registers

            pub judged-registers : b ≡ false → Err BadRecordFile ≡ capped (judged file)
            judged-registers f = rw (judged-state, f)

            pub judged-runs : b ≡ true → (f : Result (Option ℕ) Refusal) → f ≡ capped (runs_need us) → f ≡ capped (judged file)
            judged-runs t f g = g ∙ rw (judged-state, t) refl

-- ---- beside a page file
module _ (size : ℕ) where
  -- no number: not in the form
  unformed : (g : Form) (x : Refusal) → Err x ≡ capped g → refusal_number x ≡ beside g size
  unformed malformed x e = let k : x ≡ BadRecordFile = cc in rw k refl
  unformed (needs pages) x e = absurd cc

  -- a page file that is cut, as long as is needed, or not
  cut : (g : Form) (o : Option ℕ) → Ok o ≡ capped g → (size % page_size ≡ 0 → ⊥) → 11 ≡ beside g size
  cut malformed o e n = refl
  cut (needs pages) o e n = rw (ne_eqb size (page_size * pages) (λ k. n (omega arith)))

  numbered : (pages : ℕ) (n : ℕ) → Ok (Some n) ≡ capped (needs pages) → n ≡ pages
  numbered pages n e = elim (dec_lt pages (2 ^ 64)) [
    | yes h ↦ let k : Ok (Some n) ≡ Ok (Some pages) = rw (lt-ltb pages (2 ^ 64) h) at e in cc
    | no h ↦ let k : Ok (Some n) ≡ Ok None = rw (le-ltb pages (2 ^ 64) (omega arith)) at e in absurd cc
  ]

  past : (pages : ℕ) → Ok None ≡ capped (needs pages) → 2 ^ 64 ≤ pages
  past pages e = elim (dec_lt pages (2 ^ 64)) [
    | yes h ↦ let k : Ok None ≡ Ok (Some pages) = rw (lt-ltb pages (2 ^ 64) h) at e in absurd cc
    | no h ↦ omega arith
  ]

  module _ (whole : size % page_size ≡ 0) where
    all : (g : Form) (o : Option ℕ) → Ok o ≡ capped g → true ≡ option_eq eqb o (Some (size / page_size)) → 0 ≡ beside g size
    all malformed o e t = absurd cc
    all (needs pages) None e t = absurd cc
    all (needs pages) (Some n) e t =
        let k : n ≡ pages = numbered pages n e in
        let j : n ≡ size / page_size = eqb-true n (size / page_size) (sym t) in
        rw (eq-eqb size (page_size * pages) (omega arith))

    other : (g : Form) (o : Option ℕ) → Ok o ≡ capped g → size < 2 ^ 64 → false ≡ option_eq eqb o (Some (size / page_size))
        → 11 ≡ beside g size
    other malformed o e s t = refl
    other (needs pages) None e s t =
        let k : 2 ^ 64 ≤ pages = past pages e in
        rw (ne_eqb size (page_size * pages) (omega arith))
    other (needs pages) (Some n) e s t =
        let k : n ≡ pages = numbered pages n e in
        rw (ne_eqb size (page_size * pages) (λ j.
        let y : n ≡ size / page_size = omega arith in
        let z : eqb n (size / page_size) ≡ true = eq-eqb n (size / page_size) y in
        let x : false ≡ true = t ∙ z in cc))

  module _ (file : List ℕ) where
    pub no-form : (x : Refusal) → Err x ≡ capped (judged file) → refusal_number x ≡ in_form file size
    unfolding in_form
    no-form x e = unformed (judged file) x e

    module _ (o : Option ℕ) (e : Ok o ≡ capped (judged file)) where
      pub cut-page : (size % page_size ≡ 0 → ⊥) → 11 ≡ in_form file size
      unfolding in_form
      cut-page n = cut (judged file) o e n

      module _ (whole : size % page_size ≡ 0) (b : Bool) (q : b ≡ option_eq eqb o (Some (size / page_size))) where
        pub all-pages : b ≡ true → 0 ≡ in_form file size
        unfolding in_form
        all-pages t = all whole (judged file) o e (sym t ∙ q)

        pub other-pages : b ≡ false → size < 2 ^ 64 → 11 ≡ in_form file size
        unfolding in_form
        other-pages t s = other whole (judged file) o e s (sym t ∙ q)
