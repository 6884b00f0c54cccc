-- Worked examples: document 01's Session A, and files that are not in the form.
use mathlib.Core.Path.{◌≡◌, refl}
use mathlib.Core.List.{List, [], ◌∷◌, ◌++◌}
use Prim.Native.Nat.{ℕ, zero, suc, ◌*◌, ◌-◌, ◌^◌}
use native.Mathlib.Omega.{arith}
use lib.ListN.{length, length-append}
use Rattle.bits.specs.Rounding.{page_size}
use Rattle.words.specs.Bytes.{filled}
use Rattle.words.specs.LittleEndian.{from_le, to_le}
use Rattle.recordfile.specs.Words.{record_bytes, image, words_at}
use Rattle.recordfile.specs.Records.{record_of, record_at, records_from}
use Rattle.recordfile.specs.Form.{malformed, needs, most_records, dirty_needs, runs_need, registers_need, records_need, judged, in_form}
use Rattle.recordfile.specs.Snapshots.{Snapshot, snapshot_in, file_of, page_file_of, contents, Word, Each, Ranged, kept, source_run, dirty_run, register_records_of, source_records, dirty_records, image_of}
use Rattle.recordfile.specs.declared.Record.{Record}
use Rattle.recordfile.specs.declared.Record.TheVariants.{State, Registers, Source, Dirty, Bad}
use Rattle.recordfile.proofs.RoundTrip.{read_back}

-- ---- Session A

-- "M 1 0 0 1000 18446744073709551615"
abbrev state : Record
state = State 1 0 0 1000 (2 ^ 64 - 1)

-- "registers: first number (0, 4, .. 28), four values. Eight, in order."
abbrev registers : List Record
registers =
    Registers 0 0 0 0 0
    ∷ Registers 4 0 0 0 0
    ∷ Registers 8 0 0 0 0
    ∷ Registers 12 0 0 0 0
    ∷ Registers 16 0 0 0 0
    ∷ Registers 20 0 0 0 0
    ∷ Registers 24 0 0 0 0
    ∷ Registers 28 0 0 0 0
    ∷ []

-- "S 4096 0 7 3996 4096"
abbrev source : Record
source = Source 4096 0 7 3996 4096

-- "D 0 4 1 0"
abbrev first : Record
first = Dirty 0 4 1 0

-- "D 8192 4 2 1"
abbrev second : Record
second = Dirty 8192 4 2 1

abbrev session_a : List Record
session_a = state ∷ (registers ++ (source ∷ first ∷ second ∷ []))

session_a_needs : records_need session_a ≡ needs 3
unfolding records_need registers_need runs_need dirty_needs
session_a_needs = refl

-- "Of its 576 bytes"
session_a_bytes : length (image_of session_a) ≡ 576
unfolding image_of image to_le
session_a_bytes = refl

-- the file itself
session_a_judged : judged (image_of session_a) ≡ needs 3
unfolding judged records_need registers_need runs_need dirty_needs records_from record_at record_of words_at image_of image to_le from_le
session_a_judged = refl

-- beside a page file of three pages, of a page too few, of a byte too many
three_pages : in_form (image_of session_a) 12288 ≡ 0
unfolding in_form
three_pages = rw session_a_judged

two_pages : in_form (image_of session_a) 8192 ≡ 11
unfolding in_form
two_pages = rw session_a_judged

a_byte_more : in_form (image_of session_a) 12289 ≡ 11
unfolding in_form
a_byte_more = rw session_a_judged

-- "The file ends where its records end."
session_a_tail : judged (image_of session_a ++ (0 ∷ [])) ≡ malformed
unfolding judged image_of image to_le
session_a_tail = refl

zeros : (n : ℕ) → Each Word (filled n 0)
unfolding Each filled
zeros zero = record {}
zeros (suc n) = (omega arith, zeros n)

-- its snapshot, whatever its three pages hold
module _ (one two : List ℕ) (page : length one ≡ page_size) (pages : length two ≡ 2 * page_size) where
  abbrev snapshot_a : Snapshot
  snapshot_a =
      record {
        state = kept 1 0 0 1000 (2 ^ 64 - 1);
        registers = filled 32 0;
        sources = source_run 4096 0 7 3996 4096 ∷ [];
        dirty = dirty_run 0 4 one ∷ dirty_run 8192 4 two ∷ [];
      }

  -- is written as these records
  session_a_written : file_of snapshot_a ≡ image_of session_a
  unfolding file_of register_records_of source_records dirty_records filled
  session_a_written = rw (page, pages)

  -- is in range
  session_a_ranged : Ranged snapshot_a
  unfolding Each filled page_file_of contents
  session_a_ranged =
      record {
        version_small = omega arith;
        pc_word = omega arith;
        cycles_word = omega arith;
        maximum_word = omega arith;
        reservation_word = omega arith;
        registers_are = refl;
        register_words = zeros 32;
        sources_ranged = (
          record {
            address_word = omega arith;
            flag_small = omega arith;
            id_word = omega arith;
            offset_word = omega arith;
            size_word = omega arith;
          },
          record {},
        );
        dirty_ranged = (
          record { address_word = omega arith; flag_small = omega arith; whole = omega arith },
          (record { address_word = omega arith; flag_small = omega arith; whole = omega arith }, record {}),
        );
        few = omega arith;
        pages_word = simp length-append (omega arith);
      }

  -- and is read from its files
  session_a_back : (in_form (image_of session_a) (length (page_file_of snapshot_a)) ≡ 0)
      × (snapshot_in (image_of session_a) (page_file_of snapshot_a) ≡ snapshot_a)
  session_a_back = rw session_a_written at (read_back snapshot_a session_a_ranged)

-- ---- in the form

-- "9 .. records": no run at all
no-runs : records_need (state ∷ registers) ≡ needs 0
unfolding records_need registers_need runs_need dirty_needs
no-runs = refl

-- "Empty runs are allowed."
empty_runs : records_need (state ∷ (registers ++ (Source 0 0 7 0 0 ∷ Dirty 0 0 0 0 ∷ Dirty 0 255 1 0 ∷ []))) ≡ needs 1
unfolding records_need registers_need runs_need dirty_needs
empty_runs = refl

-- ---- not in the form

-- "All after kind 3."
dirty-before-source : records_need (state ∷ (registers ++ (first ∷ source ∷ []))) ≡ malformed
unfolding records_need registers_need runs_need dirty_needs
dirty-before-source = refl

-- "Place is the sum of pages of the dirty runs before it."
wrong_place : records_need (state ∷ (registers ++ (source ∷ first ∷ Dirty 8192 4 2 2 ∷ []))) ≡ malformed
unfolding records_need registers_need runs_need dirty_needs
wrong_place = refl

-- "Eight, in order."
nine-registers : records_need (state ∷ (registers ++ (Registers 32 0 0 0 0 ∷ source ∷ first ∷ []))) ≡ malformed
unfolding records_need registers_need runs_need dirty_needs
nine-registers = refl

registers_swapped : records_need
    (state
    ∷ Registers 4 0 0 0 0
    ∷ Registers 0 0 0 0 0
    ∷ Registers 8 0 0 0 0
    ∷ Registers 12 0 0 0 0
    ∷ Registers 16 0 0 0 0
    ∷ Registers 20 0 0 0 0
    ∷ Registers 24 0 0 0 0
    ∷ Registers 28 0 0 0 0
    ∷ []) ≡ malformed
unfolding records_need registers_need runs_need dirty_needs
registers_swapped = refl

-- "Exactly one, first."
no-state : records_need (registers ++ (source ∷ first ∷ second ∷ [])) ≡ malformed
unfolding records_need
no-state = refl

two_states : records_need (state ∷ (registers ++ (state ∷ source ∷ []))) ≡ malformed
unfolding records_need registers_need runs_need dirty_needs
two_states = refl

-- "version (below 2^32)"
greatest-version : record_of 1 (2 ^ 32 - 1) 0 0 0 0 ≡ State (2 ^ 32 - 1) 0 0 0 0
unfolding record_of
greatest-version = refl

version-past : record_of 1 (2 ^ 32) 0 0 0 0 ≡ Bad
unfolding record_of
version-past = refl

-- "Flags are at most 255."
greatest-flag : record_of 3 4096 255 7 3996 4096 ≡ Source 4096 255 7 3996 4096
unfolding record_of
greatest-flag = refl

flag-past : record_of 3 4096 256 7 3996 4096 ≡ Bad
unfolding record_of
flag-past = refl

dirty-flag-past : record_of 4 0 256 1 0 0 ≡ Bad
unfolding record_of
dirty-flag-past = refl

-- "dirty run: address, flag, pages, place, 0."
last_word : record_of 4 0 4 1 0 1 ≡ Bad
unfolding record_of
last_word = refl

-- kinds that are none
kind_0 : record_of 0 0 0 0 0 0 ≡ Bad
unfolding record_of
kind_0 = refl

kind_5 : record_of 5 0 0 0 0 0 ≡ Bad
unfolding record_of
kind_5 = refl

-- ---- how many

-- "1,033 records (49,584 bytes)"
most_bytes : most_records * record_bytes ≡ 49584
most_bytes = refl

-- one record fewer than nine, one more than 1,033
too_few : (file : List ℕ) → length file ≡ 8 * record_bytes → judged file ≡ malformed
unfolding judged
too_few file h = rw h

too_many : (file : List ℕ) → length file ≡ 1034 * record_bytes → judged file ≡ malformed
unfolding judged
too_many file h = rw h

empty : judged [] ≡ malformed
unfolding judged
empty = refl
