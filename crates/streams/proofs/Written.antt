-- What a writer holds that took some bytes part by part.
use Rattle.std.proofs.Common.{◌≡◌, ◌+◌, ◌-◌, length, take, drop, ℕ, List, ◌++◌, Option, arith, ap, sym, ◌∙◌, subst, take_all, length-drop, min}
use Rattle.std.specs.Io.KnownBytes.{Appends}
use Rattle.std.proofs.KnownBytes.{Appends-trans}
use Rattle.std.proofs.lemmas.List.{take_min}
use Rattle.std.proofs.Math.Nat.{min-le_right}
use Rattle.std.proofs.Math.Seq.{take-add, take-append-le, take-append-add}
use Rattle.streams.specs.Fronts.{AppendsFront}

-- the first `done` bytes, and the `count` bytes that a write took of the rest
pub more : (done count : ℕ) (bytes : List ℕ) → take done bytes ++ take count (take (length bytes - done) (drop done bytes)) ≡ take (done + count) bytes
more done count bytes =
    let rest : take (length bytes - done) (drop done bytes) ≡ drop done bytes = take_all (length bytes - done) (drop done bytes) (omega (arith, length-drop done bytes)) in
    ap (λ l. take done bytes ++ take count l) rest ∙ sym (take-add done count bytes)

-- so the writer grew by these
pub write_more : (old mid new : Option (List ℕ)) (done count : ℕ) (bytes : List ℕ) → Appends old mid (take done bytes)
    → Appends mid new (take count (take (length bytes - done) (drop done bytes))) → Appends old new (take (done + count) bytes)
write_more old mid new done count bytes first second = subst (Appends old new) (more done count bytes) (Appends-trans old mid new _ _ first second)

-- a front of the first part is a front of both
pub front_left : (old new : Option (List ℕ)) (xs ys : List ℕ) → AppendsFront old new xs → AppendsFront old new (xs ++ ys)
front_left old new xs ys front =
    let n = min front.0 (length xs) in
    let same : take front.0 xs ≡ take n (xs ++ ys) = sym (take_min front.0 xs) ∙ sym (take-append-le n xs ys (min-le_right front.0 (length xs))) in
    (n, subst (Appends old new) same front.1)

-- so is the first part with a front of the second
pub front_right : (old mid new : Option (List ℕ)) (xs ys : List ℕ) → Appends old mid xs → AppendsFront mid new ys → AppendsFront old new (xs ++ ys)
front_right old mid new xs ys first front =
    (length xs + front.0, subst (Appends old new) (sym (take-append-add xs ys front.0)) (Appends-trans old mid new _ _ first front.1))
