-- A fresh machine: its lent storage, the records of its pages with it, and its numbers.
use Rattle.std.specs.Prelude.{Bool, cond, List, ℕ, ◌*◌, ◌/◌, length, eqb, Result, Ok, Err}
use Rattle.bits.specs.Rounding.{page_size}
use Rattle.outcome.specs.Numbers.{refusal_number}
use Rattle.outcome.specs.declared.Refusal.{Refusal}
use Rattle.words.specs.Bytes.{filled}
use Rattle.memory.specs.Storage.{State, state_of, no_memory}
use Rattle.memory.specs.Storage as memory
use Rattle.memory.specs.Lent.{seen}
use Rattle.memory.specs.declared.storage.Storage.{Storage}
use Rattle.machine.specs.Numbers.{Numbers, numbers_of, fresh_numbers, no_numbers}
use Rattle.machine.specs.declared.Machine.{Machine}

-- a page's record is three words: id, offset, mark (reading 3)
abbrev pub record_words : ℕ
record_words = 3

-- "Lent storage has .. a record for each page": a memory's storage, and the records' words
abbrev pub Tracked : Type 0
Tracked = State × List ℕ

-- a machine: what is lent to it, and its numbers
abbrev pub LentMachine : Type 0
LentMachine = Tracked × Numbers

-- "lent storage of a wrong length": the words of a record for each page
unfoldable pub records_fit : ℕ → ℕ → Bool
records_fit words pages = eqb words (record_words * pages)

-- what a fresh memory was, and "every page's record untracked", which is three zeros
unfoldable pub fresh_over : ℕ × State → List ℕ → ℕ → ℕ → ℕ × LentMachine
fresh_over r records version maximum =
    cond (eqb r.0 0)
    (0, ((r.1, filled (length records) 0), fresh_numbers version maximum))
    (r.0, ((r.1, records), no_numbers))

-- "A fresh memory has no slot in use ..; a fresh machine also has every page's record untracked."
unfoldable pub fresh : List ℕ → List ℕ → List ℕ → List ℕ → ℕ → ℕ → ℕ → ℕ × LentMachine
fresh slots flags area records size version maximum =
    cond (records_fit (length records) (size / page_size))
    (fresh_over (memory.fresh slots flags area size) records version maximum)
    (9, ((state_of slots flags area no_memory, records), no_numbers))

-- the number that a fresh machine was answered with, and what was left; "A refused call gives 0 for each number"
abbrev pub made : Result Machine Refusal → Storage → List ℕ → ℕ × LentMachine
made (Ok m) s records = (0, ((seen s m.memory, records), numbers_of m))
made (Err e) s records = (refusal_number e, ((seen s no_memory, records), no_numbers))
