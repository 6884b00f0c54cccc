-- An output with room for any text holds the listing, or the map, at its front: what a program prints that writes so many bytes of it.
use mathlib.Core.Path.{◌≡◌, ap, ◌∙◌}
use mathlib.Core.List.{List}
use Prim.Native.Nat.{ℕ, ◌≤◌}
use native.Mathlib.Omega.{arith}
use lib.ListN.{length, take}
use Rattle.std.specs.Prelude.{Result, Ok, Err, IfOk}
use Rattle.std.specs.Result.{result_unwrap_or}
use Rattle.outcome.specs.Numbers.{refusal_number}
use Rattle.outcome.specs.declared.Refusal.{Refusal}
use Rattle.words.specs.Bytes.{written}
use Rattle.words.proofs.Written.{length-written, part-written}
use Rattle.listing.specs.Listing.{Output, output, told, laid, listing, list_into, most_text}
use Rattle.listing.specs.Pages.{most_pages}
use Rattle.listing.specs.Map.{map, map_into, most_map}
use Rattle.listing.proofs.Judged.{into}
use Rattle.listing.proofs.Drawn.{map-into}

front : (out t bytes : List ℕ) (number size : ℕ) → output number size t ≡ laid out (0, bytes) → size ≤ length t → take size t ≡ bytes
front out t bytes number size z inside =
    let n : size ≡ length bytes = ap (λ (y : Output). y.size) z in
    let w : t ≡ written out 0 bytes = ap (λ (y : Output). y.bytes) z in
    let k : length t ≡ length out = ap length w ∙ length-written out bytes 0 in
    rw (n, w) (part-written out bytes 0 (omega arith))

-- what was told, or nothing where that was a refusal
pub printed : (out t bytes : List ℕ) (answer : Result ℕ Refusal) (size : ℕ) → size ≡ result_unwrap_or answer 0
    → told answer t ≡ laid out (0, bytes)
    → IfOk answer (λ n. n ≤ length t)
    → (take size t ≡ bytes) × (size ≤ length t)
printed out t bytes (Ok n) size s z inside = rw s (front out t bytes 0 n z inside, inside)
printed out t bytes (Err x) size s z inside = rw s (front out t bytes (refusal_number x) 0 z (omega arith), omega arith)

pub listing_printed : (file out t : List ℕ) (answer : Result ℕ Refusal) (size : ℕ) → size ≡ result_unwrap_or answer 0 → most_text ≤ length out
    → told answer t ≡ laid out (list_into file (length out))
    → IfOk answer (λ n. n ≤ length t)
    → (take size t ≡ listing file) × (size ≤ length t)
listing_printed file out t answer size s room e inside = printed out t (listing file) answer size s (rw (into file out room) at e) inside

pub map_printed : (file out t : List ℕ) (pages : ℕ) (answer : Result ℕ Refusal) (size : ℕ) → size ≡ result_unwrap_or answer 0 → pages ≤ most_pages → most_map ≤ length out
    → told answer t ≡ laid out (map_into pages file (length out))
    → IfOk answer (λ n. n ≤ length t)
    → (take size t ≡ map pages file) × (size ≤ length t)
map_printed file out t pages answer size s few room e inside =
    printed out t (map pages file) answer size s (rw (map-into pages file out few room) at e) inside
