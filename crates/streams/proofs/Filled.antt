-- What a buffer holds that a reader filled.
use Rattle.std.proofs.Common.{◌≡◌, ◌+◌, ◌-◌, ◌≤◌, length, take, drop, IfSome, ℕ, None, Some, List, ◌++◌, Option, arith, ap, sym, ◌∙◌, subst, le_refl, drop_at, slice_range, append-nil, length-take-le, take_all}
use Rattle.std.specs.Io.KnownBytes.{Consumes, IsAtEnd}
use Rattle.std.proofs.KnownBytes.{Consumes-trans}
use Rattle.std.proofs.lemmas.Slice.{take-put_mid_below}
use borrow.Rule.Slice.PartMut.{put_mid, post_of}
use Rattle.std.proofs.Math.Seq.{take-add, take-append-le}

-- the input ended
pub ended : (known left : Option (List ℕ)) (n m : ℕ) (buf : List ℕ) → Consumes known left (take n buf) → IsAtEnd left → n ≤ m
    → length buf ≡ m → IfSome known (λ input. take n buf ≡ take m input)
ended None left n m buf given at_end below long = tt
ended (Some input) None n m buf given at_end below long = absurd given
ended (Some input) (Some rest) n m buf given at_end below long =
    let whole : input ≡ take n buf = given ∙ ap (λ l. take n buf ++ l) at_end ∙ append-nil (take n buf) in
    let few : length input ≤ m = omega (arith, ap length whole, length-take-le n buf (omega (arith, below, long))) in
    sym whole ∙ sym (take_all m input few)

-- the buffer is full
pub full : (known left : Option (List ℕ)) (n m : ℕ) (buf : List ℕ) → Consumes known left (take n buf) → m ≤ n → n ≤ length buf
    → length buf ≡ m → IfSome known (λ input. take n buf ≡ take m input)
full None left n m buf given many within long = tt
full (Some input) None n m buf given many within long = absurd given
full (Some input) (Some rest) n m buf given many within long =
    let same : m ≡ n = omega (arith, many, within, long) in
    let size : length (take n buf) ≡ n = length-take-le n buf within in
    sym (ap (take m) given ∙ take-append-le m (take n buf) rest (omega (arith, same, size)) ∙ take_all m (take n buf) (omega (arith, same, size)))

-- the first a bytes and the n that a read put behind them
pub more : (a k n : ℕ) (buf part : List ℕ) → a ≤ length buf → n ≤ length part
    → take a buf ++ take n part ≡ take (a + n) (put_mid a k buf part)
more a k n buf part within fits =
    let new = put_mid a k buf part in
    let front : take a new ≡ take a buf = take-put_mid_below a k buf part a (le_refl a) within in
    let read : take n part ≡ slice_range new a (a + n) =
    sym (ap (take ((a + n) - a)) (drop_at (take a buf) (part ++ post_of a k buf) a (length-take-le a buf within))
    ∙ ap (λ m. take m (part ++ post_of a k buf)) (omega arith) ∙ take-append-le n part (post_of a k buf) fits) in
    ap (λ l. take a buf ++ l) read ∙ ap (λ l. l ++ slice_range new a (a + n)) (sym front) ∙ ap (λ l. take a new ++ l) (ap (λ m. take m (drop a new)) (omega arith))
    ∙ sym (take-add a n new)

-- so do all the bytes that were read, those of the last read with them
pub read_more : (known mid left : Option (List ℕ)) (a k n : ℕ) (buf part : List ℕ) → Consumes known mid (take a buf)
    → Consumes mid left (take n part) → a ≤ length buf → n ≤ length part → Consumes known left (take (a + n) (put_mid a k buf part))
read_more known mid left a k n buf part first second within fits =
    subst (Consumes known left) (more a k n buf part within fits) (Consumes-trans known mid left _ _ first second)

-- a last read gave nothing
pub at_end : (known mid left : Option (List ℕ)) (a k n m : ℕ) (buf part : List ℕ) → Consumes known mid (take a buf)
    → Consumes mid left (take n part) → n ≡ 0 → IsAtEnd left → a ≤ length buf → length buf ≡ m
    → IfSome known (λ input. take a (put_mid a k buf part) ≡ take m input)
at_end known mid left a k n m buf part first second none done within long =
    let nothing : take a buf ++ take n part ≡ take a buf = ap (λ i. take a buf ++ take i part) none ∙ append-nil (take a buf) in
    let given : Consumes known left (take a buf) = subst (Consumes known left) nothing (Consumes-trans known mid left _ _ first second) in
    let front : take a buf ≡ take a (put_mid a k buf part) = sym (take-put_mid_below a k buf part a (le_refl a) within) in
    subst (λ l. IfSome known (λ input. l ≡ take m input)) front (ended known left a m buf given done (omega (arith, within, long)) long)
