-- Records in a file: a record and its words undo each other, and so do any list of records and its bytes.
use mathlib.Core.Path.{◌≡◌, refl, sym, ap, ◌∙◌}
use mathlib.Core.Bool.{Bool, true, false, cond}
use mathlib.Core.List.{List, [], ◌∷◌, ◌++◌, append_assoc, append-nil}
use Prim.Native.Nat.{ℕ, zero, suc, ◌+◌, ◌*◌, ◌%◌, ◌≤◌, ◌<◌}
use native.Mathlib.Omega.{arith}
use lib.ListN.{length, drop, get_or, length-append}
use lib.Seq.{drop-cons, drop-length, drop-drop, take-add, take_all}
use lib.Dec.{eqb, ltb}
use borrow.Author.Tests.{ltb-true, eqb-true, lt-ltb}
use Rattle.words.specs.Bytes.{part}
use Rattle.words.specs.LittleEndian.{Small}
use Rattle.recordfile.specs.Words.{record_words, record_bytes, image, words_at}
use Rattle.recordfile.specs.Records.{state_kind, registers_kind, source_kind, dirty_kind, versions, flag_values, record_of, words_of, of_words, count_in, record_at, records_from, records_in}
use Rattle.recordfile.specs.Snapshots.{Word, Each, image_of}
use Rattle.recordfile.specs.declared.Record.{Record}
use Rattle.recordfile.specs.declared.Record.TheVariants.{State, Registers, Source, Dirty, Bad}
use Rattle.recordfile.proofs.FileWords.{length-image, small-append, small-image, length-words_at, words_read, words-image, words_ranged}

-- ---- a record and its words

-- a record that words can say: its version and its flag in range
abbrev pub Told : Record → Type 0
Told (State version pc cycles maximum reservation) = version < versions
Told (Registers first one two three four) = Unit {0}
Told (Source address flag id offset size) = flag < flag_values
Told (Dirty address flag pages place) = flag < flag_values
Told Bad = ⊥

-- a record that is one
abbrev pub Sound : Record → Type 0
Sound r = r ≡ Bad → ⊥

-- "version (below 2^32)", "Flags are at most 255.": words that say such a record say it again
pub record_back : (r : Record) → Told r → of_words (words_of r) ≡ r
unfolding record_of
record_back (State version pc cycles maximum reservation) h = rw (lt-ltb version versions h)
record_back (Registers first one two three four) h = refl
record_back (Source address flag id offset size) h = rw (lt-ltb flag flag_values h)
record_back (Dirty address flag pages place) h = rw (lt-ltb flag flag_values h)
record_back Bad h = absurd h

-- what a record that six words are has of them
record Says (ws : List ℕ) (r : Record) : Type 0 where
  told : Sound r → Told r
  words : Sound r → words_of r ≡ ws

says_bad : (ws : List ℕ) → Says ws Bad
says_bad ws = record { told = λ n. absurd (n refl); words = λ n. absurd (n refl) }

either : (P : Record → Type 0) (t : Bool) (x y : Record) → (t ≡ true → P x) → P y → P (cond t x y)
either P true x y f g = f refl
either P false x y f g = g

says : (kind a b c d e : ℕ) → Says (kind ∷ a ∷ b ∷ c ∷ d ∷ e ∷ []) (record_of kind a b c d e)
unfolding record_of
says kind a b c d e =
    let ws : List ℕ = kind ∷ a ∷ b ∷ c ∷ d ∷ e ∷ [] in
    let S : Record → Type 0 = Says ws in
    let no : S Bad = says_bad ws in
    either S (eqb kind state_kind) _ _
    (λ k. either S (ltb a versions) _ _
    (λ h. record { told = λ n. ltb-true a versions h; words = λ n. rw (eqb-true kind state_kind k) }) no)
    (either S (eqb kind registers_kind) _ _
    (λ k. record { told = λ n. record {}; words = λ n. rw (eqb-true kind registers_kind k) })
    (either S (eqb kind source_kind) _ _
    (λ k. either S (ltb b flag_values) _ _
    (λ h. record { told = λ n. ltb-true b flag_values h; words = λ n. rw (eqb-true kind source_kind k) }) no)
    (either S (eqb kind dirty_kind) _ _
    (λ k. either S (ltb b flag_values) _ _
    (λ h. either S (eqb e 0) _ _
    (λ z. record { told = λ n. ltb-true b flag_values h; words = λ n. rw (eqb-true kind dirty_kind k, eqb-true e 0 z) }) no) no)
    no)))

-- n elements of a list from one on, written out
listed : List ℕ → ℕ → ℕ → List ℕ
listed l at zero = []
listed l at (suc n) = get_or l at 0 ∷ listed l (suc at) n

listed_all : (l : List ℕ) (at n : ℕ) → at + n ≡ length l → drop at l ≡ listed l at n
unfolding listed
listed_all l at zero h = let e : at ≡ length l = omega arith in rw (e, drop-length)
listed_all l at (suc n) h = drop-cons l at 0 (omega arith) ∙ ap (λ (t : List ℕ). get_or l at 0 ∷ t) (listed_all l (suc at) n (omega arith))

-- words that are a record are that record's words, and the record is in range
module _ (ws : List ℕ) (six : length ws ≡ record_words) (sound : Sound (of_words ws)) where
  pub words_back : words_of (of_words ws) ≡ ws
  unfolding listed
  words_back = (says _ _ _ _ _ _).words sound ∙ sym (listed_all ws 0 record_words (sym six))

  pub words-told : Told (of_words ws)
  words-told = (says _ _ _ _ _ _).told sound

-- ---- a record in a file

-- a record that a file can hold: told, and every number a word
pub record Held (r : Record) : Type 0 where
  pub told : Told r
  pub words : Each Word (words_of r)

-- every record has as many words
pub length_words_of : (r : Record) → length (words_of r) ≡ record_words
length_words_of (State version pc cycles maximum reservation) = refl
length_words_of (Registers first one two three four) = refl
length_words_of (Source address flag id offset size) = refl
length_words_of (Dirty address flag pages place) = refl
length_words_of Bad = refl

pub length_record : (r : Record) → length (image (words_of r)) ≡ record_bytes
length_record r = rw (length-image (words_of r), length_words_of r)

module _ (file : List ℕ) (small : Small file) (i : ℕ) (there : i < count_in file) where
  abbrev ws : List ℕ
  ws = words_at file (i * record_bytes) record_words

  is : record_at file i ≡ of_words ws
  unfolding record_at
  is = rw (lt-ltb i (count_in file) there)

  -- a record that is read is in range
  pub read_held : Sound (record_at file i) → Held (record_at file i)
  read_held sound =
      let n : Sound (of_words ws) = rw is at sound in
      let six : length ws ≡ record_words = length-words_at file (i * record_bytes) record_words in
      let w : Each Word (words_of (of_words ws)) = rw (words_back ws six n) (words_ranged file (i * record_bytes) record_words small) in
      rw is (record { told = words-told ws six n; words = w })

  -- and written again it is the bytes that were read
  pub read_image : Sound (record_at file i) → image (words_of (record_at file i)) ≡ part file (i * record_bytes) record_bytes
  read_image sound =
      let n : Sound (of_words ws) = rw is at sound in
      let six : length ws ≡ record_words = length-words_at file (i * record_bytes) record_words in
      rw (is, words_back ws six n, words-image file (i * record_bytes) record_words small (omega arith))

-- a record that stands in a file is read there
pub record_read : (r : Record) (pre post : List ℕ) (i : ℕ) → Held r → i * record_bytes ≡ length pre
    → record_at (pre ++ (image (words_of r) ++ post)) i ≡ r
unfolding record_at
record_read r pre post i held h =
    let l : length (pre ++ (image (words_of r) ++ post)) ≡ i * record_bytes + record_bytes + length post =
    simp (length-append, length_record r, ← h) (omega arith) in
    let w : words_at (pre ++ (image (words_of r) ++ post)) (i * record_bytes) record_words ≡ words_of r =
    words_read (words_of r) pre post (i * record_bytes) record_words (sym (length_words_of r)) h held.words in
    rw (lt-ltb i (count_in (pre ++ (image (words_of r) ++ post))) (omega arith), w, record_back r held.told)

-- ---- the records of a file

pub length-records_from : (file : List ℕ) (i n : ℕ) → length (records_from file i n) ≡ n
unfolding records_from
length-records_from file i zero = refl
length-records_from file i (suc n) = ap suc (length-records_from file (i + 1) n)

pub length_image_of : (rs : List Record) → length (image_of rs) ≡ record_bytes * length rs
unfolding image_of
length_image_of [] = refl
length_image_of (r ∷ rs) = simp (length-append, length_record r, length_image_of rs) (omega arith)

-- records are written as bytes
pub small_image_of : (rs : List Record) → Small (image_of rs)
unfolding image_of
small_image_of [] = λ i. omega arith
small_image_of (r ∷ rs) = small-append (image (words_of r)) (image_of rs) (small-image (words_of r)) (small_image_of rs)

-- records that are read are in range
pub records-held : (file : List ℕ) (i n : ℕ) → Small file → i + n ≤ count_in file → Each Sound (records_from file i n)
    → Each Held (records_from file i n)
unfolding records_from Each
records-held file i zero small h each = record {}
records-held file i (suc n) small h each =
    (read_held file small i (omega arith) each.0, records-held file (i + 1) n small (omega arith) each.1)

-- and written again they are the bytes that were read
pub records-image : (file : List ℕ) (i n : ℕ) → Small file → i + n ≤ count_in file → Each Sound (records_from file i n)
    → image_of (records_from file i n) ≡ part file (i * record_bytes) (record_bytes * n)
unfolding records_from Each image_of
records-image file i zero small h each = refl
records-image file i (suc n) small h each =
    let m : record_bytes * suc n ≡ record_bytes + record_bytes * n = omega arith in
    let j : (i + 1) * record_bytes ≡ i * record_bytes + record_bytes = omega arith in
    rw (read_image file small i (omega arith) each.0, records-image file (i + 1) n small (omega arith) each.1, m, j, take-add record_bytes (record_bytes * n) (drop (i * record_bytes) file), drop-drop)

-- records that stand in a file are read there
pub records_read : (rs : List Record) (pre post : List ℕ) (i n : ℕ) → n ≡ length rs → i * record_bytes ≡ length pre → Each Held rs
    → records_from (pre ++ (image_of rs ++ post)) i n ≡ rs
unfolding records_from Each image_of
records_read [] pre post i zero hn h each = refl
records_read [] pre post i (suc n) hn h each = absurd (omega arith)
records_read (r ∷ rs) pre post i zero hn h each = absurd (omega arith)
records_read (r ∷ rs) pre post i (suc n) hn h each =
    let b : List ℕ = image (words_of r) in
    let lb : length b ≡ record_bytes = length_record r in
    let one : pre ++ ((b ++ image_of rs) ++ post) ≡ pre ++ (b ++ (image_of rs ++ post)) = simp append_assoc in
    let whole : pre ++ (image_of (r ∷ rs) ++ post) ≡ pre ++ (b ++ (image_of rs ++ post)) = one in
    let split : pre ++ (b ++ (image_of rs ++ post)) ≡ (pre ++ b) ++ (image_of rs ++ post) = simp append_assoc in
    let first : record_at (pre ++ (b ++ (image_of rs ++ post))) i ≡ r = record_read r pre (image_of rs ++ post) i each.0 h in
    let rest : records_from ((pre ++ b) ++ (image_of rs ++ post)) (i + 1) n ≡ rs =
    records_read rs (pre ++ b) post (i + 1) n (omega arith) (simp (length-append, lb) (omega arith)) each.1 in
    ap (λ (f : List ℕ). record_at f i ∷ records_from f (i + 1) n) whole
    ∙ ap (λ (s : Record). s ∷ records_from (pre ++ (b ++ (image_of rs ++ post))) (i + 1) n) first
    ∙ ap (λ (f : List ℕ). r ∷ records_from f (i + 1) n) split
    ∙ ap (λ (ts : List Record). r ∷ ts) rest

-- ---- a whole file of records

-- "The file ends where its records end.": such a file written again
pub file_again : (file : List ℕ) → Small file → length file % record_bytes ≡ 0 → Each Sound (records_in file)
    → image_of (records_in file) ≡ file
file_again file small whole each =
    records-image file 0 (count_in file) small (omega arith) each ∙ take_all (record_bytes * count_in file) file (omega arith)

pub count_image_of : (rs : List Record) → count_in (image_of rs) ≡ length rs
count_image_of rs = let l : length (image_of rs) ≡ record_bytes * length rs = length_image_of rs in omega arith

-- records written and read
pub records_back : (rs : List Record) → Each Held rs → records_in (image_of rs) ≡ rs
records_back rs each =
    let e : image_of rs ++ [] ≡ image_of rs = append-nil (image_of rs) in
    rw e at (records_read rs [] [] 0 (count_in (image_of rs)) (count_image_of rs) refl each)
