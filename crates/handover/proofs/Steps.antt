-- Steps in turn, and what holds of the answer and the state that they come to.
use mathlib.Core.Path.{◌≡◌, sym, ap, ◌∙◌, subst⁻¹}
use mathlib.Core.List.{List, [], ◌∷◌}
use mathlib.Core.Logic.{◌≢◌}
use Prim.Native.Nat.{ℕ, zero, suc, ◌+◌, ◌≤◌, ◌<◌}
use native.Mathlib.Omega.{arith}
use native.Mathlib.Decide.{ℕ_discrete}
use lib.Dec.{eqb}
use borrow.Author.Tests.{eqb-true, eqb-false}
use Rattle.program.specs.Program.{Prog, ret, run, onwards, after, and_then, each, each_in}
use Rattle.program.proofs.Laws.{run_bind}
use Rattle.memory.proofs.StoreCases.{cases}

module _ {Op : Type 0} {Reply : Op → Type 0} {S : Type 0} (does : (o : Op) → S → Reply o × S) where
  -- a step that is done, then the rest; or one that refuses
  pub after_cases : {A : Type 0} (P : A × S → Type 0) (refused : ℕ → A) (g : Prog Op Reply ℕ) (k : Prog Op Reply A) (s : S)
      → ((run does g s).0 ≡ 0 → P (run does k (run does g s).1))
      → ((run does g s).0 ≢ 0 → P (refused (run does g s).0, (run does g s).1))
      → P (run does (after refused g k) s)
  unfolding after run
  after_cases {A} P refused g k s done stop =
      subst⁻¹ P (run_bind does g (onwards refused k) s)
      (cases (λ (h : Prog Op Reply A). P (run does h (run does g s).1)) (eqb (run does g s).0 0) k (ret (refused (run does g s).0))
      (λ e. done (eqb-true _ _ e))
      (λ e. stop (eqb-false _ _ e)))

  -- what holds of a step, and from there on of the rest
  pub then_kept : (P : ℕ × S → Type 0) (g k : Prog Op Reply ℕ) (s : S) → P (run does g s) → ((t : S) → P (0, t) → P (run does k t))
      → P (run does (and_then g k) s)
  then_kept P g k s h f =
      after_cases P (λ n. n) g k s (λ e. f _ (subst⁻¹ (λ (n : ℕ). P (n, (run does g s).1)) (sym e) h)) (λ n. h)

  pub each-kept : (P : ℕ × S → Type 0) (g : ℕ → Prog Op Reply ℕ) (n p : ℕ)
      → ((q : ℕ) → p ≤ q → q < p + n → (s : S) → P (0, s) → P (run does (g q) s))
      → (s : S) → P (0, s) → P (run does (each g n p) s)
  unfolding each run
  each-kept P g zero p f s h = h
  each-kept P g (suc n) p f s h =
      then_kept P (g p) (each g n (p + 1)) s (f p (omega arith) (omega arith) s h)
      (each-kept P g n (p + 1) (λ q a b. f q (omega arith) (omega arith)))

  pub in_kept : {A : Type 0} (P : ℕ × S → Type 0) (g : A → Prog Op Reply ℕ) → ((x : A) (s : S) → P (0, s) → P (run does (g x) s))
      → (xs : List A) (s : S) → P (0, s) → P (run does (each_in g xs) s)
  unfolding each_in run
  in_kept P g f [] s h = h
  in_kept P g f (x ∷ xs) s h = then_kept P (g x) (each_in g xs) s (f x s h) (in_kept P g f xs)

  -- questions that leave the state alone, all answered 0
  module _ (g : ℕ → Prog Op Reply ℕ) (s : S) (asks : (q : ℕ) → (run does (g q) s).1 ≡ s) where
    pub each-done : (n p : ℕ) → (run does (each g n p) s).0 ≡ 0 → (q : ℕ) → p ≤ q → q < p + n → (run does (g q) s).0 ≡ 0
    unfolding each
    each-done zero p = λ e q a b. absurd (omega arith)
    each-done (suc n) p =
        after_cases (λ r. r.0 ≡ 0 → (q : ℕ) → p ≤ q → q < p + suc n → (run does (g q) s).0 ≡ 0) (λ n. n) (g p) (each g n (p + 1)) s
        (λ z e q a b. elim (ℕ_discrete q p) [
          | yes w ↦ ap (λ (x : ℕ). (run does (g x) s).0) w ∙ z
          | no w ↦ each-done n (p + 1) (ap (λ (t : S). (run does (each g n (p + 1)) t).0) (sym (asks p)) ∙ e) q (omega arith) (omega arith)
        ])
        (λ z e. absurd (z e))
