-- Which results programs can end with, beside what Keeps says: steps for each element of a list, lists that are collected, pages
-- below a bound, and programs of the layer below.
use mathlib.Core.Path.{◌≡◌, refl, ap}
use mathlib.Core.List.{List, [], ◌∷◌}
use Prim.Native.Nat.{ℕ, zero, suc, ◌+◌, ◌≤◌, ◌<◌}
use native.Mathlib.Omega.{arith}
use lib.ListN.{length}
use lib.Dec.{eqb}
use Rattle.program.specs.Program.{Prog, ret, ask, bind, onwards, each, each_in, collect}
use Rattle.program.specs.Layers.{Plus, low, own, ReplyPlus, lift}
use Rattle.program.proofs.Keeps.{Ends, ends-bind, ends-after}
use Rattle.memory.proofs.StoreCases.{cases}
use Rattle.recordfile.specs.Snapshots.{Each}

-- what holds of every element
pub each_of : {A : Type 0} (P : A → Type 0) → ((x : A) → P x) → (xs : List A) → Each P xs
unfolding Each
each_of P f [] = tt
each_of P f (x ∷ xs) = (f x, each_of P f xs)

pub each_map : {A : Type 0} (P Q : A → Type 0) → ((x : A) → P x → Q x) → (xs : List A) → Each P xs → Each Q xs
unfolding Each
each_map P Q f [] e = tt
each_map P Q f (x ∷ xs) e = (f x e.0, each_map P Q f xs e.1)

module _ {Op : Type 0} {Reply : Op → Type 0} (Can : (o : Op) → Reply o → Type 0) where
  -- any result
  pub ends-any : {A : Type 0} (g : Prog Op Reply A) → Ends Can (λ (x : A). Unit {0}) g
  ends-any (ret x) = tt
  ends-any (ask o k) = λ r c. ends-any (k r)

  pub ends-onwards : {A : Type 0} (Q : A → Type 0) (refused : ℕ → A) (h : Prog Op Reply A) (n : ℕ) → Q (refused n) → Ends Can Q h
      → Ends Can Q (onwards refused h n)
  ends-onwards Q refused h n c e = cases (Ends Can Q) (eqb n 0) h (ret (refused n)) (λ t. e) (λ t. c)

  pub ends_in : {A : Type 0} (P : ℕ → Type 0) (g : A → Prog Op Reply ℕ) → P 0 → (xs : List A) → Each (λ (x : A). Ends Can P (g x)) xs
      → Ends Can P (each_in g xs)
  unfolding each_in Each
  ends_in P g z [] e = z
  ends_in P g z (x ∷ xs) e = ends-after Can P P (λ n. n) (g x) (each_in g xs) e.0 (λ n h. h) (ends_in P g z xs e.1)

  -- pages below a bound
  pub ends-below : (P : ℕ → Type 0) (g : ℕ → Prog Op Reply ℕ) → P 0 → (bound : ℕ) → ((p : ℕ) → p < bound → Ends Can P (g p))
      → (n p : ℕ) → p + n ≤ bound → Ends Can P (each g n p)
  unfolding each
  ends-below P g z bound e zero p h = z
  ends-below P g z bound e (suc n) p h =
      ends-after Can P P (λ n. n) (g p) (each g n (p + 1)) (e p (omega arith)) (λ n c. c)
      (ends-below P g z bound e n (p + 1) (omega arith))

  -- as many as were asked for
  pub ends-collect : {A : Type 0} (g : ℕ → Prog Op Reply A) (n p : ℕ) → Ends Can (λ (l : List A). length l ≡ n) (collect g n p)
  unfolding collect
  ends-collect g zero p = refl
  ends-collect {A} g (suc n) p =
      ends-bind Can (λ (x : A). Unit {0}) (λ (l : List A). length l ≡ suc n) (g p)
      (λ x. bind (collect g n (p + 1)) (λ xs. ret (x ∷ xs)))
      (ends-any (g p))
      (λ x u.
      ends-bind Can (λ (l : List A). length l ≡ n) (λ (l : List A). length l ≡ suc n) (collect g n (p + 1)) (λ xs. ret (x ∷ xs))
      (ends-collect g n (p + 1))
      (λ xs e. ap suc e))

-- ---- layers

module _ {Low Own : Type 0} {R : Low → Type 0} {Q : Own → Type 0} where
  -- what the operations below reply, and one's own
  abbrev pub CanPlus : ((o : Low) → R o → Type 0) → ((o : Own) → Q o → Type 0) → (o : Plus Low Own) → ReplyPlus R Q o → Type 0
  CanPlus can cans (low o) r = can o r
  CanPlus can cans (own o) r = cans o r

  pub ends-lift : (can : (o : Low) → R o → Type 0) (cans : (o : Own) → Q o → Type 0) {A : Type 0} (P : A → Type 0) (g : Prog Low R A)
      → Ends can P g → Ends (CanPlus can cans) P (lift g)
  unfolding lift
  ends-lift can cans P (ret x) e = e
  ends-lift can cans P (ask o k) e = λ r c. ends-lift can cans P (k r) (e r c)
