-- One law for each way in which a call on a machine ends.
use mathlib.Core.Path.{◌≡◌, refl, sym, ap, ◌∙◌}
use mathlib.Core.Bool.{Bool, true, false}
use mathlib.Core.List.{List}
use Prim.Native.Nat.{ℕ, ◌*◌, ◌/◌, ◌%◌}
use native.Mathlib.Omega.{arith}
use lib.ListN.{length}
use lib.Dec.{eqb}
use borrow.Author.Tests.{eq-eqb, ne_eqb, eqb-true, eqb-false}
use Rattle.bits.specs.Rounding.{page_size}
use Rattle.words.specs.Bytes.{filled}
use Rattle.memory.specs.Storage.{State, state_of, valued, no_value, no_memory}
use Rattle.memory.specs.Storage as memory
use Rattle.machine.specs.Numbers.{Numbers, fresh_numbers, no_numbers}
use Rattle.machine.specs.Fresh.{LentMachine, record_words, records_fit, fresh_over, fresh}

-- ---- lengths of records

module _ (words pages : ℕ) where
  pub records_odd : (words % record_words ≡ 0 → ⊥) → false ≡ records_fit words pages
  unfolding records_fit
  records_odd n = sym (ne_eqb words (record_words * pages) (λ e. n (omega arith)))

  pub records-told : (b : Bool) → words % record_words ≡ 0 → b ≡ eqb (words / record_words) pages → b ≡ records_fit words pages
  unfolding records_fit
  records-told b z e = e ∙ go (eqb (words / record_words) pages) refl
    where
      go : (b : Bool) → eqb (words / record_words) pages ≡ b → b ≡ eqb words (record_words * pages)
      go true e = sym (eq-eqb words (record_words * pages) (omega (arith, eqb-true (words / record_words) pages e)))
      go false e = sym (ne_eqb words (record_words * pages) (λ f. eqb-false (words / record_words) pages e (omega arith)))

-- ---- a fresh machine

module _ (slots flags area records : List ℕ) (size version maximum : ℕ) (b : Bool)
    (e : b ≡ records_fit (length records) (size / page_size)) where
  pub fresh_odd : b ≡ false
      → (9, ((state_of slots flags area no_memory, records), no_numbers)) ≡ fresh slots flags area records size version maximum
  unfolding fresh
  fresh_odd t = rw (← e, t)

  module _ (t : b ≡ true) (n : ℕ) (s : State) (q : (n, s) ≡ memory.fresh slots flags area size) where
    on : (r : ℕ × LentMachine) → r ≡ fresh_over (n, s) records version maximum → r ≡ fresh slots flags area records size version maximum
    unfolding fresh
    on r w = rw (← e, t) (w ∙ ap (λ (x : ℕ × State). fresh_over x records version maximum) q)

    pub fresh-made : (now : List ℕ) (k : Numbers) → n ≡ 0 → now ≡ filled (length records) 0 → k ≡ fresh_numbers version maximum
        → (0, ((s, now), k)) ≡ fresh slots flags area records size version maximum
    unfolding fresh_over
    fresh-made now k z f w = on _ (rw (z, f, w))

    pub fresh-refused : false ≡ eqb n 0 → (n, ((s, records), no_numbers)) ≡ fresh slots flags area records size version maximum
    unfolding fresh_over
    fresh-refused i = on _ (rw (← i))
