-- Page records: "each page's record says either untracked, or tracked with id, offset and flag".
use Rattle.std.specs.Prelude.{ℕ, ◌+◌, ◌*◌, ◌%◌, cond, List, [], ◌∷◌, nat_lt, slice_index, slice_set}
use Rattle.machine.specs.Fresh.{record_words}
use Rattle.tracking.specs.declared.records.Tracking.{Tracking}
use Rattle.tracking.specs.declared.records.Tracking.TheVariants.{Untracked, Tracked}

-- a page's words are id, offset and mark; "Mark below 256 reads as untracked, else as tracked with the low eight bits as flag"
-- (reading 3)
abbrev pub tracked_mark : ℕ
tracked_mark = 256

-- the record that three words are
unfoldable pub record_of : ℕ → ℕ → ℕ → Tracking
record_of id offset mark = cond (nat_lt mark tracked_mark) Untracked (Tracked id offset (mark % tracked_mark))

-- the same of the words in a list
abbrev pub record_in : List ℕ → Tracking
record_in words = record_of (slice_index words 0) (slice_index words 1) (slice_index words 2)

-- a page's record
abbrev pub record_at : List ℕ → ℕ → Tracking
record_at records p =
    record_of (slice_index records (p * record_words)) (slice_index records (p * record_words + 1)) (slice_index records (p * record_words + 2))

-- three words in the place of a page's
abbrev pub with_words : List ℕ → ℕ → ℕ → ℕ → ℕ → List ℕ
with_words records p id offset mark =
    slice_set (slice_set (slice_set records (p * record_words) id) (p * record_words + 1) offset) (p * record_words + 2) mark

-- "we write 0 and 256 + flag, and untracking writes three zeros" (reading 3)
abbrev pub words_of : Tracking → List ℕ
words_of Untracked = 0 ∷ 0 ∷ 0 ∷ []
words_of (Tracked id offset flag) = id ∷ offset ∷ (tracked_mark + flag) ∷ []

abbrev pub with_record : List ℕ → ℕ → Tracking → List ℕ
with_record records p Untracked = with_words records p 0 0 0
with_record records p (Tracked id offset flag) = with_words records p id offset (tracked_mark + flag)
