-- What `?` returns of a refusal is that refusal; and what `ok_or` says of a checked sum or difference.
use Rattle.std.proofs.Common.{◌≡◌, ℕ, Some, None, Ok, Err, Option, Result, arith, ap, ◌∙◌}
use Rattle.std.specs.Option.{SomeIff, ok_or}
use Rattle.std.specs.Result.{IsErrAnd}
use Rattle.std.proofs.lemmas.Result.{err_from_is_err_and}
use Rattle.outcome.specs.declared.Refusal.{Refusal}

pub passed : {T : Type 0} {x : Refusal} (r : Result T Refusal) → IsErrAnd r (λ y. y ≡ x) → r ≡ Err x
passed r h =
    let p = err_from_is_err_and r h in
    p.1 ∙ ap Err p.2

abbrev number : Result ℕ Refusal → ℕ
number (Ok n) = n
number (Err y) = 0

abbrev done : Result ℕ Refusal → ℕ
done (Ok n) = 1
done (Err y) = 0

abbrev refusal : Refusal → Result ℕ Refusal → Refusal
refusal x (Ok n) = x
refusal x (Err y) = y

-- a value was there
pub some_of : {P : Type 0} {v : ℕ} (o : Option ℕ) (x : Refusal) (n : ℕ) → SomeIff o P v → Ok n ≡ ok_or o x → P × (n ≡ v)
some_of (Some m) x n s e = (s.0, ap number e ∙ s.1)
some_of None x n s e = absurd (let z : ◌≡◌ {A = ℕ} 1 0 = ap done e in omega arith)

-- none was, and the refusal is the one that was given
pub none_of : {P : Type 0} (v : ℕ) (o : Option ℕ) (x y : Refusal) → SomeIff o P v → Err y ≡ ok_or o x → (P → ⊥) × (y ≡ x)
none_of v (Some m) x y s e = absurd (let z : ◌≡◌ {A = ℕ} 0 1 = ap done e in omega arith)
none_of v None x y s e = (s, ap (refusal x) e)
