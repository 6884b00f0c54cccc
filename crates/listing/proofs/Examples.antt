-- Session A's listing, and small numbers and files as text.
use mathlib.Core.Path.{◌≡◌, refl}
use mathlib.Core.List.{List, [], ◌∷◌}
use Prim.Native.Nat.{ℕ, ◌-◌, ◌^◌}
use lib.ListN.{length}
use Rattle.words.specs.LittleEndian.{from_le, to_le}
use Rattle.recordfile.specs.Words.{image, words_at}
use Rattle.recordfile.specs.Records.{record_of, record_at, records_from}
use Rattle.recordfile.specs.Form.{dirty_needs, runs_need, registers_need, records_need, judged}
use Rattle.recordfile.specs.Snapshots.{image_of}
use Rattle.recordfile.specs.declared.Record.{Record}
use Rattle.recordfile.specs.declared.Record.TheVariants.{State, Registers, Source, Dirty}
use Rattle.listing.specs.Decimals.{digits_of, decimal}
use Rattle.listing.specs.Listing.{spaced, line, line_of, lines, listing}

-- ---- numbers

-- 0
nought : decimal 0 ≡ 48 ∷ []
unfolding decimal digits_of
nought = refl

-- 9, 10
nine : decimal 9 ≡ 57 ∷ []
unfolding decimal digits_of
nine = refl

ten : decimal 10 ≡ 49 ∷ 48 ∷ []
unfolding decimal digits_of
ten = refl

-- 18446744073709551615
greatest : decimal (2 ^ 64 - 1) ≡ 49 ∷ 56 ∷ 52 ∷ 52 ∷ 54 ∷ 55 ∷ 52 ∷ 52 ∷ 48 ∷ 55 ∷ 51 ∷ 55 ∷ 48 ∷ 57 ∷ 53 ∷ 53 ∷ 49 ∷ 54 ∷ 49 ∷ 53 ∷ []
unfolding decimal digits_of
greatest = refl

-- ---- Session A

-- eight register records, all values 0, before others
abbrev blank_registers : List Record → List Record
blank_registers rs =
    Registers 0 0 0 0 0
    ∷ Registers 4 0 0 0 0
    ∷ Registers 8 0 0 0 0
    ∷ Registers 12 0 0 0 0
    ∷ Registers 16 0 0 0 0
    ∷ Registers 20 0 0 0 0
    ∷ Registers 24 0 0 0 0
    ∷ Registers 28 0 0 0 0
    ∷ rs

-- its records: the state, eight register records, a source run and two dirty runs
abbrev session_a : List Record
session_a =
    State 1 0 0 1000 (2 ^ 64 - 1)
    ∷ blank_registers (Source 4096 0 7 3996 4096 ∷ Dirty 0 4 1 0 ∷ Dirty 8192 4 2 1 ∷ [])

-- M 1 0 0 1000 18446744073709551615
-- S 4096 0 7 3996 4096
-- D 0 4 1 0
-- D 8192 4 2 1
abbrev session_text : List ℕ
session_text =
    77 ∷ 32 ∷ 49 ∷ 32 ∷ 48 ∷ 32 ∷ 48 ∷ 32 ∷ 49 ∷ 48 ∷ 48 ∷ 48 ∷ 32 ∷ 49 ∷ 56 ∷ 52 ∷ 52 ∷ 54 ∷ 55 ∷ 52 ∷ 52 ∷ 48 ∷ 55 ∷ 51 ∷ 55 ∷ 48 ∷ 57 ∷ 53 ∷ 53 ∷ 49 ∷ 54 ∷ 49 ∷ 53 ∷ 10
    ∷ 83 ∷ 32 ∷ 52 ∷ 48 ∷ 57 ∷ 54 ∷ 32 ∷ 48 ∷ 32 ∷ 55 ∷ 32 ∷ 51 ∷ 57 ∷ 57 ∷ 54 ∷ 32 ∷ 52 ∷ 48 ∷ 57 ∷ 54 ∷ 10
    ∷ 68 ∷ 32 ∷ 48 ∷ 32 ∷ 52 ∷ 32 ∷ 49 ∷ 32 ∷ 48 ∷ 10
    ∷ 68 ∷ 32 ∷ 56 ∷ 49 ∷ 57 ∷ 50 ∷ 32 ∷ 52 ∷ 32 ∷ 50 ∷ 32 ∷ 49 ∷ 10
    ∷ []

session_lines : lines session_a ≡ session_text
unfolding lines line_of line spaced decimal digits_of
session_lines = refl

-- "Of its 576 bytes the program prints exactly"
session_size : length (image_of session_a) ≡ 576
unfolding image_of image to_le
session_size = refl

session_listing : listing (image_of session_a) ≡ session_text
unfolding listing judged records_need registers_need runs_need dirty_needs records_from record_at record_of words_at from_le image_of image to_le lines line_of line spaced decimal digits_of
session_listing = refl

-- ---- files that are not in the form

-- E 11
abbrev refused : List ℕ
refused = 69 ∷ 32 ∷ 49 ∷ 49 ∷ 10 ∷ []

-- an empty file
empty-listing : listing [] ≡ refused
unfolding listing judged line spaced decimal digits_of
empty-listing = refl

-- ---- places near 2^64

-- only the last run takes the sum of pages past 2^64-1: it is printed
abbrev last_beyond : List Record
last_beyond = State 0 0 0 0 0 ∷ blank_registers (Dirty 0 0 (2 ^ 64 - 1) 0 ∷ Dirty 0 0 1 (2 ^ 64 - 1) ∷ [])

-- M 0 0 0 0 0
-- D 0 0 18446744073709551615 0
-- D 0 0 1 18446744073709551615
last-beyond : listing (image_of last_beyond)
    ≡ 77 ∷ 32 ∷ 48 ∷ 32 ∷ 48 ∷ 32 ∷ 48 ∷ 32 ∷ 48 ∷ 32 ∷ 48 ∷ 10
    ∷ 68 ∷ 32 ∷ 48 ∷ 32 ∷ 48 ∷ 32 ∷ 49 ∷ 56 ∷ 52 ∷ 52 ∷ 54 ∷ 55 ∷ 52 ∷ 52 ∷ 48 ∷ 55 ∷ 51 ∷ 55 ∷ 48 ∷ 57 ∷ 53 ∷ 53 ∷ 49 ∷ 54 ∷ 49 ∷ 53 ∷ 32 ∷ 48 ∷ 10
    ∷ 68 ∷ 32 ∷ 48 ∷ 32 ∷ 48 ∷ 32 ∷ 49 ∷ 32 ∷ 49 ∷ 56 ∷ 52 ∷ 52 ∷ 54 ∷ 55 ∷ 52 ∷ 52 ∷ 48 ∷ 55 ∷ 51 ∷ 55 ∷ 48 ∷ 57 ∷ 53 ∷ 53 ∷ 49 ∷ 54 ∷ 49 ∷ 53 ∷ 10
    ∷ []
unfolding listing judged records_need registers_need runs_need dirty_needs records_from record_at record_of words_at from_le image_of image to_le lines line_of line spaced decimal digits_of
last-beyond = refl

-- a run after it has no place, not even the sum's low 64 bits
abbrev run_after : List Record
run_after = State 0 0 0 0 0 ∷ blank_registers (Dirty 0 0 (2 ^ 64 - 1) 0 ∷ Dirty 0 0 1 (2 ^ 64 - 1) ∷ Dirty 0 0 1 0 ∷ [])

run_after_lem : listing (image_of run_after) ≡ refused
unfolding listing judged records_need registers_need runs_need dirty_needs records_from record_at record_of words_at from_le image_of image to_le lines line_of line spaced decimal digits_of
run_after_lem = refl
