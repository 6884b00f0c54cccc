-- The form of a whole record file, and of the page file beside it.
use Rattle.std.specs.Prelude.{cond, List, [], ◌∷◌, ℕ, zero, suc, ◌+◌, ◌*◌, ◌%◌, ◌^◌, length, eqb, ltb, leb, Result, Ok, Err, Option, Some, None}
use Rattle.bits.specs.Rounding.{page_size}
use Rattle.outcome.specs.declared.Refusal.{Refusal}
use Rattle.outcome.specs.declared.Refusal.TheVariants.{BadRecordFile}
use Rattle.recordfile.specs.Words.{record_bytes}
use Rattle.recordfile.specs.Records.{count_in, records_in}
use Rattle.recordfile.specs.declared.Record.{Record}
use Rattle.recordfile.specs.declared.form.Form as code
use Rattle.recordfile.specs.declared.form.Form.TheVariants as variants
use Rattle.recordfile.specs.declared.Record.TheVariants.{State, Registers, Source, Dirty, Bad}

-- "All else is 11.": not in the form; or in it, beside a page file of so many pages
pub data Form : Type 0 where
  malformed : Form
  needs : ℕ → Form

-- "9 to 1,033 records"
abbrev pub least_records : ℕ
least_records = 9

abbrev pub most_records : ℕ
most_records = 1033

-- "registers: first number (0, 4, .. 28), four values. Eight, in order."
abbrev pub register_records : ℕ
register_records = 8

abbrev pub registers_a_record : ℕ
registers_a_record = 4

-- "Place is the sum of pages of the dirty runs before it. All after kind 3." So many pages stand before
unfoldable pub dirty_needs : ℕ → List Record → Form
dirty_needs place [] = needs place
dirty_needs place (Dirty address flag pages at ∷ rs) = cond (eqb at place) (dirty_needs (place + pages) rs) malformed
dirty_needs place (Source address flag id offset size ∷ rs) = malformed
dirty_needs place (Registers first one two three four ∷ rs) = malformed
dirty_needs place (State version pc cycles maximum reservation ∷ rs) = malformed
dirty_needs place (Bad ∷ rs) = malformed

-- source runs, then dirty runs
unfoldable pub runs_need : List Record → Form
runs_need (Source address flag id offset size ∷ rs) = runs_need rs
runs_need [] = dirty_needs 0 []
runs_need (Dirty address flag pages at ∷ rs) = dirty_needs 0 (Dirty address flag pages at ∷ rs)
runs_need (Registers first one two three four ∷ rs) = malformed
runs_need (State version pc cycles maximum reservation ∷ rs) = malformed
runs_need (Bad ∷ rs) = malformed

-- n register records, the next of which begins with this number, then runs
unfoldable pub registers_need : ℕ → ℕ → List Record → Form
registers_need next zero rs = runs_need rs
registers_need next (suc n) (Registers first one two three four ∷ rs) =
    cond (eqb first next) (registers_need (next + registers_a_record) n rs) malformed
registers_need next (suc n) [] = malformed
registers_need next (suc n) (State version pc cycles maximum reservation ∷ rs) = malformed
registers_need next (suc n) (Source address flag id offset size ∷ rs) = malformed
registers_need next (suc n) (Dirty address flag pages at ∷ rs) = malformed
registers_need next (suc n) (Bad ∷ rs) = malformed

-- "state: .. Exactly one, first."
unfoldable pub records_need : List Record → Form
records_need (State version pc cycles maximum reservation ∷ rs) = registers_need 0 register_records rs
records_need [] = malformed
records_need (Registers first one two three four ∷ rs) = malformed
records_need (Source address flag id offset size ∷ rs) = malformed
records_need (Dirty address flag pages at ∷ rs) = malformed
records_need (Bad ∷ rs) = malformed

-- "9 to 1,033 records (49,584 bytes). .. The file ends where its records end. All else is 11. Empty runs are allowed."
unfoldable pub judged : List ℕ → Form
judged file =
    cond (eqb (length file % record_bytes) 0)
    (cond (leb least_records (count_in file))
    (cond (leb (count_in file) most_records) (records_need (records_in file)) malformed)
    malformed)
    malformed

-- "The page file holds the dirty pages one after another and its length is 4,096 times their number."
abbrev pub beside : Form → ℕ → ℕ
beside malformed size = 11
beside (needs pages) size = cond (eqb size (page_size * pages)) 0 11

-- the number for a record file and a page file of so many bytes
unfoldable pub in_form : List ℕ → ℕ → ℕ
in_form file size = beside (judged file) size

-- the form as the code answers it: more pages than 2^64-1 have no number there
abbrev pub capped : Form → Result (Option ℕ) Refusal
capped malformed = Err BadRecordFile
capped (needs pages) = Ok (cond (ltb pages (2 ^ 64)) (Some pages) None)

-- the same in three cases, of which none is a refusal
abbrev pub form_of : Result (Option ℕ) Refusal → code.Form
form_of (Ok (Some pages)) = variants.Needs pages
form_of (Ok None) = variants.Beyond
form_of (Err _) = variants.Malformed
