-- The position of a reader, and the records that it has left.
use Rattle.std.specs.Prelude.{◌≡◌, cond, Option, List, ℕ, ◌+◌, ◌^◌, ◌-◌, ltb}
use Rattle.std.specs.Iterator.{YieldsFirst}
use Rattle.recordfile.specs.Records.{count_in, records_from}
use Rattle.recordfile.specs.declared.Record.{Record}
use Rattle.recordfile.specs.declared.reader.Reader.{Reader}

-- the greatest position
abbrev pub last_position : ℕ
last_position = 2 ^ 64 - 1

-- the position one record further; the greatest stays
abbrev pub next_to : ℕ → ℕ
next_to at = cond (ltb at last_position) (at + 1) at

-- the records of a file from its position on
abbrev pub left : Reader → List Record
left r = records_from r.file.now r.at (count_in r.file.now - r.at)

-- it gave the first of the records that were left, or none where none was, and is the same file's, past that record, or where it was
abbrev pub TakesNext : Reader → Option Record → Reader → Type 0
TakesNext r given after =
    YieldsFirst left r given after
    × (after.file ≡ r.file)
    × (after.at ≡ cond (ltb r.at (count_in r.file.now)) (r.at + 1) r.at)
