-- Laws of what is written: a byte, texts one after another, a number digit by digit, and the turns of filling a form.
use mathlib.Core.Path.{◌≡◌, refl, sym, ap, ◌∙◌}
use mathlib.Core.List.{List, [], ◌∷◌, ◌++◌}
use Prim.Native.Nat.{ℕ, suc, ◌+◌, ◌*◌, ◌/◌, ◌%◌, ◌^◌, ◌≤◌, ◌<◌}
use native.Mathlib.Nat.{add-zero}
use native.Mathlib.Numerals.{add-one}
use native.Mathlib.Omega.{arith}
use lib.ListN.{length, drop, get_or, set, length-append, drop_of_length-le}
use lib.Seq.{drop-cons}
use mathlib.Core.Bool.{true}
use lib.Dec.{eqb}
use borrow.Author.Tests.{eq-eqb, ne_eqb}
use Rattle.std.specs.List.{IsFirstAndRest}
use Rattle.words.proofs.Written.{length-written, written_none, written_next}
use Rattle.listing.specs.Decimals.{digit, decimal, most_digits}
use Rattle.listing.specs.Texts.{gap, standing, remaining, filled, Wrote}
use Rattle.listing.proofs.Digits.{decimal_one, decimal_more, decimal-few, written_byte}

-- ---- one after another

pub joined : {s t u a b : List ℕ} {at e f : ℕ} → Wrote s at a t e → Wrote t e b u f → Wrote s at (a ++ b) u f
joined {s} {t} {u} {a} {b} {at} {e} {f} p q =
    record {
      holds = q.holds ∙ rw (p.holds, p.ends) (written_next s a b at);
      ends = rw (length-append a b) (omega (arith, p.ends, q.ends));
    }

pub nothing_put : (s : List ℕ) (at : ℕ) → Wrote s at [] s at
nothing_put s at = record { holds = sym (written_none s at); ends = sym (add-zero at) }

pub byte_put : (s : List ℕ) (at a : ℕ) → Wrote s at (a ∷ []) (set s at a) (at + 1)
byte_put s at a = record { holds = written_byte s at a; ends = refl }

pub length_put : (s t l : List ℕ) (at e : ℕ) → Wrote s at l t e → length t ≡ length s
length_put s t l at e w = ap length w.holds ∙ length-written s l at

-- ---- a number

-- one digit, the only one
pub digit_only : (s t : List ℕ) (at e n b : ℕ) → n < 10 → b ≡ 48 + n % 10 → Wrote s at (b ∷ []) t e → Wrote s at (decimal n) t e
digit_only s t at e n b h d w =
    let k : b ≡ digit n = omega arith in
    rw (decimal_one n h, ← k) w

-- one digit, after those of the tenth
pub digit_last : (s t u : List ℕ) (at e f n b : ℕ) → 10 ≤ n → n < 2 ^ 64 → b ≡ 48 + n % 10
    → Wrote s at (decimal (n / 10)) t e → Wrote t e (b ∷ []) u f → Wrote s at (decimal n) u f
digit_last s t u at e f n b h k d p q = rw (decimal_more n h k, ← d) (joined p q)

-- it has room
pub digit_fits : (s t : List ℕ) (at e n : ℕ) → 10 ≤ n → n < 2 ^ 64 → Wrote s at (decimal (n / 10)) t e → at + most_digits ≤ length s
    → length t ≡ length s → e + 1 ≤ length t
digit_fits s t at e n h k p r l =
    let m : length (decimal n) ≡ length (decimal (n / 10)) + 1 = rw (decimal_more n h k, length-append) in
    omega (arith, decimal-few n, p.ends)

-- ---- a form from i on

module _ (out₀ : List ℕ) (at : ℕ) (form numbers : List ℕ) where
  -- with the numbers that are left, after what is written, it makes the whole
  pub record Filling (out : List ℕ) (end : ℕ) (ns : List ℕ) (i : ℕ) : Type 0 where
    pub within : i ≤ length form
    pub room : end + length ns * most_digits ≤ at + i + length numbers * most_digits
    pub whole : (t : List ℕ) (e : ℕ) → Wrote out end (filled (drop i form) ns) t e → Wrote out₀ at (filled form numbers) t e

  module _ (out : List ℕ) (end : ℕ) (ns : List ℕ) (i : ℕ) (g : Filling out end ns i) where
    module _ (h : i < length form) (t : List ℕ) (e : ℕ) where
      -- a turn: what stands for the next byte, and the numbers that remain
      turn : (bytes ms : List ℕ) → standing (get_or form i 0) ns ≡ bytes → remaining (get_or form i 0) ns ≡ ms
          → length bytes + length ms * most_digits ≤ 1 + length ns * most_digits
          → Wrote out end bytes t e
          → Filling t e ms (i + 1)
      unfolding filled
      turn bytes ms s r few p =
          let d : drop i form ≡ get_or form i 0 ∷ drop (suc i) form = drop-cons form i 0 h in
          record {
            within = omega arith;
            room = omega (arith, g.room, p.ends);
            whole = λ u f q. g.whole u f (rw (d, s, r) (joined p (rw (add-one i) at q)));
          }

      -- a byte that is no gap
      pub filling_plain : (get_or form i 0 ≡ gap → ⊥) → Wrote out end (get_or form i 0 ∷ []) t e → Filling t e ns (i + 1)
      unfolding standing remaining
      filling_plain n = turn (get_or form i 0 ∷ []) ns (stands ns) (remains ns) (omega arith) where
        stands : (l : List ℕ) → standing (get_or form i 0) l ≡ get_or form i 0 ∷ []
        stands [] = refl
        stands (m ∷ l) = rw (ne_eqb (get_or form i 0) gap n)

        remains : (l : List ℕ) → remaining (get_or form i 0) l ≡ l
        remains [] = refl
        remains (m ∷ l) = rw (ne_eqb (get_or form i 0) gap n)

      -- no number is left
      pub filling_spent : length ns ≡ 0 → Wrote out end (get_or form i 0 ∷ []) t e → Filling t e ns (i + 1)
      unfolding standing remaining
      filling_spent z = turn (get_or form i 0 ∷ []) ns (stands ns z) (remains ns z) (omega arith) where
        stands : (l : List ℕ) → length l ≡ 0 → standing (get_or form i 0) l ≡ get_or form i 0 ∷ []
        stands [] z = refl
        stands (m ∷ l) z = absurd (omega arith)

        remains : (l : List ℕ) → length l ≡ 0 → remaining (get_or form i 0) l ≡ l
        remains [] z = refl
        remains (m ∷ l) z = absurd (omega arith)

      -- the next number
      pub filling_number : get_or form i 0 ≡ gap → (n : ℕ) (ms : List ℕ) → IsFirstAndRest ns n ms → Wrote out end (decimal n) t e → Filling t e ms (i + 1)
      unfolding standing remaining
      filling_number c n ms z =
          let b : eqb (get_or form i 0) gap ≡ true = eq-eqb (get_or form i 0) gap c in
          let k : ns ≡ n ∷ ms = z.0 in
          turn (decimal n) ms (rw (k, b) refl) (rw (k, b) refl) (rw k (omega (arith, decimal-few n)))

    module _ (h : length form ≤ i) where
      -- the end
      pub filling_done : Wrote out₀ at (filled form numbers) out end
      unfolding filled
      filling_done = g.whole out end (rw (drop_of_length-le form {i = i} h) (nothing_put out end))
