-- No second outcome fits the promise of `list`, nor that of `draw`: two answers, with the outputs that they left, that both meet it are the same.
use mathlib.Core.Path.{◌≡◌, ap, sym, ◌∙◌}
use mathlib.Core.List.{List}
use Prim.Native.Nat.{ℕ}
use lib.ListN.{length}
use Rattle.outcome.specs.Numbers.{Outcome, refusal_number}
use Rattle.outcome.proofs.Numbers.{number_once}
use Rattle.std.specs.Prelude.{Result, Ok, Err}
use Rattle.outcome.specs.declared.Refusal.{Refusal}
use Rattle.listing.specs.Listing.{Output, told, laid, list_into}
use Rattle.listing.specs.Map.{map_into}

-- a number is no refusal
never : (x : Refusal) → 0 ≡ refusal_number x → ⊥
never x e = let z : Ok tt ≡ Err x = number_once (Ok tt) (Err x) e in absurd cc

told_once : (r q : Result ℕ Refusal) (t u : List ℕ) → told r t ≡ told q u → r ≡ q
told_once (Ok n) (Ok m) t u z = ap (λ (y : Output). Ok y.size) z
told_once (Ok n) (Err y) t u z = absurd (never y (ap (λ (o : Output). o.number) z))
told_once (Err x) (Ok m) t u z = absurd (never x (sym (ap (λ (o : Output). o.number) z)))
told_once (Err x) (Err y) t u z = ap back (number_once (Err x) (Err y) (ap (λ (o : Output). o.number) z))
  where
    back : Outcome → Result ℕ Refusal
    back (Ok _) = Ok 0
    back (Err w) = Err w

told_bytes : (r q : Result ℕ Refusal) (t u : List ℕ) → told r t ≡ told q u → t ≡ u
told_bytes (Ok n) (Ok m) t u z = ap (λ (y : Output). y.bytes) z
told_bytes (Ok n) (Err y) t u z = ap (λ (y : Output). y.bytes) z
told_bytes (Err x) (Ok m) t u z = ap (λ (y : Output). y.bytes) z
told_bytes (Err x) (Err y) t u z = ap (λ (y : Output). y.bytes) z

laid_once : (out : List ℕ) (w : ℕ × List ℕ) (r q : Result ℕ Refusal) (t u : List ℕ)
    → told r t ≡ laid out w
    → told q u ≡ laid out w
    → (r ≡ q) × (t ≡ u)
laid_once out w r q t u e f = let z : told r t ≡ told q u = e ∙ sym f in (told_once r q t u z, told_bytes r q t u z)

pub list_once : (file out : List ℕ) (r q : Result ℕ Refusal) (t u : List ℕ)
    → told r t ≡ laid out (list_into file (length out))
    → told q u ≡ laid out (list_into file (length out))
    → (r ≡ q) × (t ≡ u)
list_once file out = laid_once out (list_into file (length out))

pub draw_once : (file out : List ℕ) (pages : ℕ) (r q : Result ℕ Refusal) (t u : List ℕ)
    → told r t ≡ laid out (map_into pages file (length out))
    → told q u ≡ laid out (map_into pages file (length out))
    → (r ≡ q) × (t ≡ u)
draw_once file out pages = laid_once out (map_into pages file (length out))
