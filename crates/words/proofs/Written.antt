-- Laws of `written`: its length, what it is where the bytes fit, one store, two runs of stores, and the bytes that stay.
use mathlib.Core.Path.{◌≡◌, refl, sym, ap, ◌∙◌}
use Prim.Native.Nat.{ℕ, zero, suc, ◌+◌, ◌-◌, ◌≤◌, ◌<◌, min}
use native.Mathlib.Nat.{add-zero}
use native.Mathlib.Decide.{dec_le}
use native.Mathlib.Omega.{arith}
use mathlib.Core.List.{List, [], ◌∷◌, ◌++◌, append_assoc}
use mathlib.Core.Logic.{◌⊎◌, inl, inr}
use lib.ListN.{length, take, drop, get_or, set, length-set, length-take}
use lib.Seq.{drop-set-add, sets, sets-eq, length-sets, set_out, take_all, take-set-le, drop-set-lt, get_or-take, get_or-drop}
use Rattle.bits.specs.Rounding.{page_size}
use Rattle.words.specs.Bytes.{part, patch, written}
use Rattle.words.proofs.Patch.{patch_none, part-patch}

-- no more than n stores find room
sets_cut : (n : ℕ) (l s : List ℕ) (at : ℕ) → length s ≤ at + n → sets s at l ≡ sets s at (take n l)
sets_cut zero [] s at h = refl
sets_cut zero (a ∷ l) s at h = rw (set_out s at a (omega arith)) (sets_cut zero l s (suc at) (omega arith))
sets_cut (suc n) [] s at h = refl
sets_cut (suc n) (a ∷ l) s at h = sets_cut n l (set s at a) (suc at) (rw length-set (omega arith))

-- what is written is a run of stores, of which those past the end change nothing
pub written-sets : (s l : List ℕ) (at : ℕ) → written s at l ≡ sets s at l
unfolding written
written-sets s l at = elim (dec_le at (length s)) [
  | yes h ↦ sym
      (sets_cut (length s - at) l s at (omega arith)
      ∙ sets-eq (take (length s - at) l) s at (rw length-take (omega arith))
      ∙ append_assoc (take at s) (take (length s - at) l) _)
  | no h ↦
      let z : length s - at ≡ 0 = omega arith in
      rw (z, patch_none) (sym (sets_cut zero l s at (omega arith)))
]

pub length-written : (s l : List ℕ) (at : ℕ) → length (written s at l) ≡ length s
length-written s l at = rw written-sets (length-sets s at l)

-- where the bytes fit, none is dropped
pub written-fits : (s l : List ℕ) (at : ℕ) → at + length l ≤ length s → written s at l ≡ patch s at l
unfolding written
written-fits s l at h = rw (take_all (length s - at) l (omega arith))

pub part-written : (s l : List ℕ) (at : ℕ) → at + length l ≤ length s → part (written s at l) at (length l) ≡ l
part-written s l at h = rw (written-fits s l at h, part-patch s l at h)

-- a copy of at most a page that fits
pub copied-fits : (d s : List ℕ) → length s ≤ page_size → length s ≤ length d → written d 0 (take page_size s) ≡ patch d 0 s
copied-fits d s hp hd = rw (take_all page_size s hp) (written-fits d s 0 (omega arith))

pub written_none : (s : List ℕ) (at : ℕ) → written s at [] ≡ s
written_none s at = written-sets s [] at

-- stores past the end of the bytes, or of the room for them, are none
pub written_cut : (s l : List ℕ) (at n : ℕ) → min (length l) (length s - at) ≤ n → written s at (take n l) ≡ written s at l
written_cut s l at n h = elim (dec_le (length l) n) [
  | yes k ↦ rw (take_all n l k)
  | no k ↦ written-sets s (take n l) at ∙ sym (sets_cut n l s at (omega arith)) ∙ sym (written-sets s l at)
]

-- no byte is left, or no room
pub written_end : (s l : List ℕ) (at : ℕ) → min (length l) (length s - at) ≡ 0 → written s at l ≡ s
written_end s l at h = sym (written_cut s l at 0 (omega arith)) ∙ written_none s at

-- one store, and the rest
pub written_cons : (s l : List ℕ) (at a : ℕ) → written s at (a ∷ l) ≡ written (set s at a) (suc at) l
written_cons s l at a = rw (written-sets s (a ∷ l) at, written-sets)

-- a run of stores that goes on where one ended
pub written_next : (s l m : List ℕ) (at : ℕ) → written (written s at l) (at + length l) m ≡ written s at (l ++ m)
written_next s [] m at = rw (written_none, add-zero)
written_next s (a ∷ l) m at =
    let k : at + suc (length l) ≡ suc at + length l = omega arith in
    rw (written_cons s l at a, written_cons s (l ++ m) at a, k) (written_next (set s at a) l m (suc at))

-- THE OTHER BYTES STAY: those before at, and those past what was stored
pub take-written : (s l : List ℕ) (at k : ℕ) → k ≤ at → take k (written s at l) ≡ take k s
take-written s [] at k h = rw written_none
take-written s (a ∷ l) at k h =
    rw (written_cons s l at a) (take-written (set s at a) l (suc at) k (omega arith)) ∙ take-set-le k s at a h

pub drop-written : (s l : List ℕ) (at k : ℕ) → at + length l ≤ k → drop k (written s at l) ≡ drop k s
drop-written s [] at k h = rw written_none
drop-written s (a ∷ l) at k h =
    rw (written_cons s l at a) (drop-written (set s at a) l (suc at) k (omega arith)) ∙ drop-set-lt k s at a (omega arith)

-- the same for a part that ends before, or starts after
pub part-before : (s l : List ℕ) (at k n : ℕ) → k + n ≤ at → part (written s at l) k n ≡ part s k n
part-before s [] at k n h = rw written_none
part-before s (a ∷ l) at k n h =
    let e : at ≡ k + (at - k) = omega arith in
    let d : drop k (set s at a) ≡ set (drop k s) (at - k) a = ap (λ (j : ℕ). drop k (set s j a)) e ∙ drop-set-add k s (at - k) a in
    rw (written_cons s l at a, part-before (set s at a) l (suc at) k n (omega arith), d, take-set-le n (drop k s) (at - k) a (omega arith))

pub part_after : (s l : List ℕ) (at k n : ℕ) → at + length l ≤ k → part (written s at l) k n ≡ part s k n
part_after s l at k n h = rw (drop-written s l at k h)

-- the same for a byte
pub written-before : (s l : List ℕ) (at i : ℕ) → i < at → get_or (written s at l) i 0 ≡ get_or s i 0
written-before s l at i h =
    sym (get_or-take at (written s at l) i 0 h) ∙ rw (take-written s l at at (omega arith)) (get_or-take at s i 0 h)

pub written_after : (s l : List ℕ) (at i : ℕ) → at + length l ≤ i → get_or (written s at l) i 0 ≡ get_or s i 0
written_after s l at i h =
    let e : (t : List ℕ) → get_or (drop i t) 0 0 ≡ get_or t i 0 = λ t. rw (get_or-drop, add-zero) in
    sym (e (written s at l)) ∙ rw (drop-written s l at i h) (e s)

-- a byte that was stored, by its index
pub written_in : (s l : List ℕ) (at i : ℕ) → at ≤ i → i < at + length l → at + length l ≤ length s
    → get_or (written s at l) i 0 ≡ get_or l (i - at) 0
written_in s l at i h k f =
    ap (λ (j : ℕ). get_or (written s at l) j 0) (omega arith)
    ∙ sym (get_or-drop at (written s at l) (i - at) 0)
    ∙ sym (get_or-take (length l) (drop at (written s at l)) (i - at) 0 (omega arith))
    ∙ ap (λ (x : List ℕ). get_or x (i - at) 0) (part-written s l at f)

-- and one that was not: before or past what was stored
pub written_out : (s l : List ℕ) (at i : ℕ) → (i < at) ⊎ (at + length l ≤ i) → get_or (written s at l) i 0 ≡ get_or s i 0
written_out s l at i (inl h) = written-before s l at i h
written_out s l at i (inr h) = written_after s l at i h
