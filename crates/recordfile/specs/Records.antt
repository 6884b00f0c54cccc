-- Records: what six words say, and the six words of what is said.
use Rattle.std.specs.Prelude.{cond, List, [], ◌∷◌, ℕ, zero, suc, ◌+◌, ◌*◌, ◌/◌, ◌^◌, length, get_or, eqb, ltb}
use Rattle.words.specs.Bytes.{written}
use Rattle.recordfile.specs.Words.{record_words, record_bytes, image, words_at}
use Rattle.recordfile.specs.declared.Record.{Record}
use Rattle.recordfile.specs.declared.Record.TheVariants.{State, Registers, Source, Dirty, Bad}

-- "Word 0 is the kind."
abbrev pub state_kind : ℕ
state_kind = 1

abbrev pub registers_kind : ℕ
registers_kind = 2

abbrev pub source_kind : ℕ
source_kind = 3

abbrev pub dirty_kind : ℕ
dirty_kind = 4

-- "version (below 2^32)"
abbrev pub versions : ℕ
versions = 2 ^ 32

-- "Flags are at most 255."
abbrev pub flag_values : ℕ
flag_values = 256

-- "1. state: version (below 2^32), pc, cycles, maximum, reservation."
-- "2. registers: first number (0, 4, .. 28), four values."
-- "3. source run: address, flag, id, offset, length in bytes."
-- "4. dirty run: address, flag, pages, place, 0."
unfoldable pub record_of : ℕ → ℕ → ℕ → ℕ → ℕ → ℕ → Record
record_of kind a b c d e =
    cond (eqb kind state_kind)
    (cond (ltb a versions) (State a b c d e) Bad)
    (cond (eqb kind registers_kind)
    (Registers a b c d e)
    (cond (eqb kind source_kind)
    (cond (ltb b flag_values) (Source a b c d e) Bad)
    (cond (eqb kind dirty_kind)
    (cond (ltb b flag_values) (cond (eqb e 0) (Dirty a b c d) Bad) Bad)
    Bad)))

-- the words of a record; those of none are zeros
abbrev pub words_of : Record → List ℕ
words_of (State version pc cycles maximum reservation) = state_kind ∷ version ∷ pc ∷ cycles ∷ maximum ∷ reservation ∷ []
words_of (Registers first one two three four) = registers_kind ∷ first ∷ one ∷ two ∷ three ∷ four ∷ []
words_of (Source address flag id offset size) = source_kind ∷ address ∷ flag ∷ id ∷ offset ∷ size ∷ []
words_of (Dirty address flag pages place) = dirty_kind ∷ address ∷ flag ∷ pages ∷ place ∷ 0 ∷ []
words_of Bad = 0 ∷ 0 ∷ 0 ∷ 0 ∷ 0 ∷ 0 ∷ []

-- the record that a list of words is
abbrev pub of_words : List ℕ → Record
of_words ws = record_of (get_or ws 0 0) (get_or ws 1 0) (get_or ws 2 0) (get_or ws 3 0) (get_or ws 4 0) (get_or ws 5 0)

-- "48-byte records, no header": how many whole records a file has
abbrev pub count_in : List ℕ → ℕ
count_in file = length file / record_bytes

-- record i of a file
unfoldable pub record_at : List ℕ → ℕ → Record
record_at file i = cond (ltb i (count_in file)) (of_words (words_at file (i * record_bytes) record_words)) Bad

-- n records of a file from record i on
unfoldable pub records_from : List ℕ → ℕ → ℕ → List Record
records_from file i zero = []
records_from file i (suc n) = record_at file i ∷ records_from file (i + 1) n

abbrev pub records_in : List ℕ → List Record
records_in file = records_from file 0 (count_in file)

-- a file with record i written; past its last whole record nothing is
unfoldable pub encoded : List ℕ → ℕ → Record → List ℕ
encoded file i r = cond (ltb i (count_in file)) (written file (i * record_bytes) (image (words_of r))) file
