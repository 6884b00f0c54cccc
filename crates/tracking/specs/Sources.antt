-- Sources: a directory over lent bytes, and where the data of an item lies in them.
use Rattle.std.specs.Prelude.{ℕ, zero, suc, ◌+◌, ◌-◌, ◌*◌, ◌/◌, min, cond, List, length, ◌==◌, nat_le, slice_index, Option, Some, None}
use Rattle.words.specs.Bytes.{part}
use Rattle.tracking.specs.declared.sources.Place.{Place}

-- "a directory of numbers in threes: id, start, length"
abbrev pub entry_words : ℕ
entry_words = 3

-- a number of document 01's table; where the data starts in the source bytes, how many bytes it has, and "the remaining full
-- length"; "A refused call gives 0 for each number and an empty part"
pub record Data : Type 0 where
  pub number : ℕ
  pub start : ℕ
  pub count : ℕ
  pub full : ℕ

abbrev pub found : ℕ → ℕ → ℕ → Data
found start count full = record { number = 0; start = start; count = count; full = full }

abbrev pub missing : Data
missing = record { number = 6; start = 0; count = 0; full = 0 }

-- the values of a place, and of one that may be missing
abbrev pub found_at : Place → Data
found_at p = found p.start p.count p.full

abbrev pub placed : Option Place → Data
placed (Some p) = found_at p
placed None = missing

-- what an entry gives: "one whose range leaves the bytes, or an offset above its length: .. 6. Otherwise the data is the smaller
-- of the wanted length and what remains"
unfoldable pub data_in : ℕ → ℕ → ℕ → ℕ → ℕ → Data
data_in room start size offset wanted =
    cond (nat_le (start + size) room)
    (cond (nat_le offset size) (found (start + offset) (min wanted (size - offset)) (size - offset)) missing)
    missing

-- "The first entry with an id decides; no entry, ..: 6": n entries from i on
unfoldable pub among : List ℕ → ℕ → ℕ → ℕ → ℕ → ℕ → ℕ → Data
among directory room id offset wanted zero i = missing
among directory room id offset wanted (suc n) i =
    cond (slice_index directory (i * entry_words) == id)
    (data_in room (slice_index directory (i * entry_words + 1)) (slice_index directory (i * entry_words + 2)) offset wanted)
    (among directory room id offset wanted n (i + 1))

-- "Numbers after the last whole entry are ignored."
unfoldable pub find_data : List ℕ → ℕ → ℕ → ℕ → ℕ → Data
find_data directory room id offset wanted = among directory room id offset wanted (length directory / entry_words) 0

-- "handed back as that part of the lent source bytes"
abbrev pub data_of : List ℕ → Data → List ℕ
data_of sources d = part sources d.start d.count
