-- Page indices, in the form in which they are answered: none of no bytes, none where the sum passes the bound, else two pages.
use Rattle.std.proofs.Common.{◌≡◌, ℕ, ◌+◌, ◌-◌, ◌/◌, ◌<◌, ◌≤◌, arith, eq-eqb, ne_eqb, le-leb}
use borrow.Author.Tests.{lt-leb}
use Rattle.bits.specs.Rounding.{page_size}
use Rattle.memory.specs.Pages.{PageIndices, no_indices, pages_within}

module _ (bound a n : ℕ) where
  pub indices_none : n ≡ 0 → no_indices 2 ≡ pages_within bound a n
  unfolding pages_within
  indices_none e = simp (eq-eqb n 0 e)

  pub indices-past : 0 < n → bound < a + n → no_indices 2 ≡ pages_within bound a n
  unfolding pages_within
  indices-past k h = simp (ne_eqb n 0 (omega arith), lt-leb (a + n) bound h)

  pub indices-are : (e : ℕ) → 0 < n → e ≡ a + n → e ≤ bound
      → ◌≡◌ {A = PageIndices} (record { number = 0; first = a / page_size; last = (e - 1) / page_size }) (pages_within bound a n)
  unfolding pages_within
  indices-are e k q h = rw q (simp (ne_eqb n 0 (omega arith), le-leb (a + n) bound (omega arith)))
