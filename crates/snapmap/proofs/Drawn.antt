-- What was written of what was read.
use Rattle.std.proofs.Common.{◌≡◌, ◌+◌, ◌*◌, ℕ, List, take, Option, IfSome, Result, Ok, Err, OnOk}
use Rattle.std.specs.Io.KnownBytes.{Keeps}
use Rattle.std.proofs.KnownBytes.{Appends-kept}
use Rattle.streams.specs.Fronts.{AppendsFront}
use Rattle.recordfile.specs.Words.{record_bytes}
use Rattle.recordfile.specs.Form.{most_records}
use Rattle.listing.specs.Map.{map}
use Rattle.listing.proofs.Front.{map_front, of_input}

-- what holds of the map of a front that is a byte longer than the largest file holds of the input's
pub drawn : (P : List ℕ → Type 0) (known : Option (List ℕ)) (pages : ℕ) (file text : List ℕ)
    → IfSome known (λ input. file ≡ take (most_records * record_bytes + 1) input) → text ≡ map pages file → P text
    → IfSome known (λ input. P (map pages input))
drawn P known pages file text read laid holds = of_input (map pages) (most_records * record_bytes + 1) P known file text (map_front pages) read laid holds

-- a fact that holds whatever was answered
pub on_ok : {T E P : Type 0} (answer : Result T E) → P → OnOk answer P
on_ok (Ok t) holds = holds
on_ok (Err e) holds = tt

-- a flush adds nothing
pub front_kept : (old mid new : Option (List ℕ)) (text : List ℕ) → AppendsFront old mid text → Keeps mid new → AppendsFront old new text
front_kept old mid new text front kept = (front.0, Appends-kept old mid new _ front.1 kept)
