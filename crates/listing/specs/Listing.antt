-- The text of a record file: "The program `snaplist` .. prints decimals: `M` with words 1 to 5 of kind 1; `S` with words 1 to 5 of
-- each source run; `D` with words 1 to 4 of each dirty run; or only `E 11`."
use Rattle.std.specs.Prelude.{cond, List, [], ◌∷◌, ◌++◌, ℕ, ◌+◌, ◌*◌, length, leb, Result, Ok, Err}
use Rattle.outcome.specs.Numbers.{refusal_number}
use Rattle.outcome.specs.declared.Refusal.{Refusal}
use Rattle.words.specs.Bytes.{written}
use Rattle.recordfile.specs.Records.{records_in}
use Rattle.recordfile.specs.Form.{Form, malformed, needs, judged, most_records}
use Rattle.recordfile.specs.declared.Record.{Record}
use Rattle.recordfile.specs.declared.Record.TheVariants.{State, Registers, Source, Dirty, Bad}
use Rattle.listing.specs.Decimals.{most_digits, decimal}

-- the characters beside the digits: a space, the end of a line, and `M`, `S`, `D`, `E`
abbrev pub space : ℕ
space = 32

abbrev pub newline : ℕ
newline = 10

abbrev pub letter_m : ℕ
letter_m = 77

abbrev pub letter_s : ℕ
letter_s = 83

abbrev pub letter_d : ℕ
letter_d = 68

abbrev pub letter_e : ℕ
letter_e = 69

-- "prints decimals": each number after a space
unfoldable pub spaced : List ℕ → List ℕ
spaced [] = []
spaced (n ∷ ns) = space ∷ (decimal n ++ spaced ns)

-- a letter "with words": one line
unfoldable pub line : ℕ → List ℕ → List ℕ
line letter numbers = letter ∷ (spaced numbers ++ (newline ∷ []))

-- "`M` with words 1 to 5 of kind 1; `S` with words 1 to 5 of each source run; `D` with words 1 to 4 of each dirty run"
unfoldable pub line_of : Record → List ℕ
line_of (State version pc cycles maximum reservation) = line letter_m (version ∷ pc ∷ cycles ∷ maximum ∷ reservation ∷ [])
line_of (Source address flag id offset size) = line letter_s (address ∷ flag ∷ id ∷ offset ∷ size ∷ [])
line_of (Dirty address flag pages place) = line letter_d (address ∷ flag ∷ pages ∷ place ∷ [])
line_of (Registers first one two three four) = []
line_of Bad = []

-- the lines of records, one after another
unfoldable pub lines : List Record → List ℕ
lines [] = []
lines (r ∷ rs) = line_of r ++ lines rs

-- "takes the page file to be of the needed length, and prints ..; or only `E 11`": the text of a file in the form, or that
abbrev pub listed : Form → List ℕ → List ℕ
listed malformed text = line letter_e (11 ∷ [])
listed (needs pages) text = text

-- the most numbers of a line: "words 1 to 5"
abbrev pub most_numbers : ℕ
most_numbers = 5

-- the most bytes of a number after its space, of a line, and of "1,033 records"
abbrev pub most_spaced : ℕ
most_spaced = 1 + most_digits

abbrev pub most_line : ℕ
most_line = 1 + most_numbers * most_spaced + 1

abbrev pub most_text : ℕ
most_text = most_records * most_line

-- the text of a record file
unfoldable pub listing : List ℕ → List ℕ
listing file = listed (judged file) (lines (records_in file))

-- what a call answered, and the whole output that it left
pub record Output : Type 0 where
  pub number : ℕ
  pub size : ℕ
  pub bytes : List ℕ

abbrev pub output : ℕ → ℕ → List ℕ → Output
output number size bytes = record { number = number; size = size; bytes = bytes }

-- what a call answered: its number and its size; a refused call gives 0 for that
abbrev pub told : Result ℕ Refusal → List ℕ → Output
told (Ok size) bytes = output 0 size bytes
told (Err refusal) bytes = output (refusal_number refusal) 0 bytes

-- the number and the text of a file, for an output of so many bytes; "a lent output is too short": 8, and no text
unfoldable pub list_into : List ℕ → ℕ → ℕ × List ℕ
list_into file room = cond (leb most_text room) (0, listing file) (8, [])

-- a text at the front of a lent output, and its size
abbrev pub laid : List ℕ → ℕ × List ℕ → Output
laid out r = output r.0 (length r.1) (written out 0 r.1)
