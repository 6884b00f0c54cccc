-- What the code answers, in the words of the definitions.
use Rattle.std.specs.Prelude.{ℕ, List, Result, Ok, Err}
use Rattle.outcome.specs.Numbers.{refusal_number}
use Rattle.outcome.specs.declared.Refusal.{Refusal}
use Rattle.words.specs.Bytes.{written}
use Rattle.memory.specs.Pages.{PageIndices, no_indices}
use Rattle.memory.specs.Storage.{State, Valued, valued, no_value}
use Rattle.memory.specs.Sparse.{Output, output}
use Rattle.memory.specs.declared.Indices.{Indices}

-- a number and a value
abbrev pub value_of : Result ℕ Refusal → Valued
value_of (Ok v) = valued v
value_of (Err e) = no_value (refusal_number e)

abbrev pub indices_of : Result Indices Refusal → PageIndices
indices_of (Ok r) = record { number = 0; first = r.first; last = r.last }
indices_of (Err e) = no_indices (refusal_number e)

-- a number, a value, and the whole output that a call left; the storage was only read
abbrev pub wrote : ℕ → ℕ → List ℕ → State → Output × State
wrote n v out s = (output n v out, s)

-- the bytes of a result at the front of a lent output; "output past the size stays", "the rest unchanged"
abbrev pub laid : List ℕ → Output × State → Output × State
laid out r = (output r.0.number r.0.value (written out 0 r.0.bytes), r.1)
