-- Words in a file: words written and read, bytes read and written, over any number of words at any place.
use mathlib.Core.Path.{◌≡◌, refl, sym, ap, ◌∙◌}
use mathlib.Core.List.{List, [], ◌∷◌, ◌++◌, append_assoc}
use Prim.Native.Nat.{ℕ, zero, suc, ◌+◌, ◌*◌, ◌^◌, ◌≤◌, ◌<◌}
use native.Mathlib.Nat.{pow-succ', pow-le-pow_right}
use native.Mathlib.Omega.{arith}
use lib.ListN.{length, drop, length-append, length-take}
use lib.Seq.{take_at, drop_at, drop-drop, take-add}
use Rattle.words.specs.Bytes.{part}
use Rattle.words.specs.LittleEndian.{from_le, to_le, Small}
use Rattle.words.proofs.Patch.{length_part}
use Rattle.words.proofs.LittleEndian.{length-to_le, from_le-fits, to_le-from_le, small-to_le, small-part}
use Rattle.recordfile.specs.Words.{word_bytes, image, words_at}
use Rattle.recordfile.specs.Snapshots.{Word, Each}

pub length-image : (ws : List ℕ) → length (image ws) ≡ word_bytes * length ws
unfolding image
length-image [] = refl
length-image (w ∷ ws) = simp (length-append, length-to_le, length-image ws) (omega arith)

pub length-words_at : (file : List ℕ) (at n : ℕ) → length (words_at file at n) ≡ n
unfolding words_at
length-words_at file at zero = refl
length-words_at file at (suc n) = ap suc (length-words_at file (at + word_bytes) n)

-- words that stand somewhere in a file are read there
pub words_read : (ws pre post : List ℕ) (at n : ℕ) → n ≡ length ws → at ≡ length pre → Each Word ws
    → words_at (pre ++ (image ws ++ post)) at n ≡ ws
unfolding image words_at Each
words_read [] pre post at zero hn ha each = refl
words_read [] pre post at (suc n) hn ha each = absurd (omega arith)
words_read (w ∷ ws) pre post at zero hn ha each = absurd (omega arith)
words_read (w ∷ ws) pre post at (suc n) hn ha each =
    let b : List ℕ = to_le word_bytes w in
    let lb : length b ≡ word_bytes = length-to_le word_bytes w in
    let again : pre ++ ((b ++ image ws) ++ post) ≡ (pre ++ b) ++ (image ws ++ post) = simp append_assoc in
    let split : pre ++ (image (w ∷ ws) ++ post) ≡ (pre ++ b) ++ (image ws ++ post) = again in
    let here : part (pre ++ ((b ++ image ws) ++ post)) at word_bytes ≡ b =
    rw (drop_at pre ((b ++ image ws) ++ post) at (sym ha), append_assoc, take_at b (image ws ++ post) word_bytes lb) in
    let first : from_le (part (pre ++ ((b ++ image ws) ++ post)) at word_bytes) ≡ w = rw here (from_le-fits word_bytes w each.0) in
    let rest : words_at ((pre ++ b) ++ (image ws ++ post)) (at + word_bytes) n ≡ ws =
    words_read ws (pre ++ b) post (at + word_bytes) n (omega arith) (simp (length-append, lb) (omega arith)) each.1 in
    rw first (ap (λ (ts : List ℕ). w ∷ ts) (ap (λ (f : List ℕ). words_at f (at + word_bytes) n) split ∙ rest))

-- bytes that are read as words are the image of those words
pub words-image : (file : List ℕ) (at n : ℕ) → Small file → at + word_bytes * n ≤ length file
    → image (words_at file at n) ≡ part file at (word_bytes * n)
unfolding image words_at
words-image file at zero small h = refl
words-image file at (suc n) small h =
    let l : length (part file at word_bytes) ≡ word_bytes = length_part file at word_bytes (omega arith) in
    let first : to_le word_bytes (from_le (part file at word_bytes)) ≡ part file at word_bytes =
    rw l at (to_le-from_le (part file at word_bytes) (small-part file at word_bytes small)) in
    let m : word_bytes * suc n ≡ word_bytes + word_bytes * n = omega arith in
    rw (first, words-image file (at + word_bytes) n small (omega arith), m, take-add word_bytes (word_bytes * n) (drop at file), drop-drop)

pub small-append : (a b : List ℕ) → Small a → Small b → Small (a ++ b)
small-append [] b ha hb i = hb i
small-append (x ∷ a) b ha hb zero = ha 0
small-append (x ∷ a) b ha hb (suc i) = small-append a b (λ j. ha (suc j)) hb i

-- words are written as bytes
pub small-image : (ws : List ℕ) → Small (image ws)
unfolding image
small-image [] = λ i. omega arith
small-image (w ∷ ws) = small-append (to_le word_bytes w) (image ws) (small-to_le word_bytes w) (small-image ws)

-- the number in n bytes
pub from_le-small : (l : List ℕ) → Small l → from_le l < 256 ^ length l
unfolding from_le
from_le-small [] small = omega arith
from_le-small (b ∷ l) small =
    let hb : b < 256 = small 0 in
    let h : from_le l < 256 ^ length l = from_le-small l (λ i. small (suc i)) in
    rw pow-succ' (omega arith)

-- what is read from bytes are words
pub words_ranged : (file : List ℕ) (at n : ℕ) → Small file → Each Word (words_at file at n)
unfolding words_at Each
words_ranged file at zero small = record {}
words_ranged file at (suc n) small =
    let p : List ℕ = part file at word_bytes in
    let h : from_le p < 256 ^ length p = from_le-small p (small-part file at word_bytes small) in
    let l : length p ≤ word_bytes = rw length-take (omega arith) in
    let k : 256 ^ length p ≤ 256 ^ word_bytes = pow-le-pow_right (omega arith) l in
    (omega arith, words_ranged file (at + word_bytes) n small)
