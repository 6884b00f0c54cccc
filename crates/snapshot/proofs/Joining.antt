-- What is of pages in turn, and neighbours merged, for every kind of run.
use mathlib.Core.Path.{◌≡◌, refl}
use mathlib.Core.Bool.{Bool, true, false, cond, false≢true}
use mathlib.Core.List.{List, [], ◌∷◌}
use Prim.Native.Nat.{ℕ, zero, suc, ◌+◌, ◌-◌, ◌≤◌, ◌<◌}
use native.Mathlib.Omega.{arith}
use Rattle.program.specs.Program.{along}
use Rattle.snapshot.specs.Walk.{joined}

-- ---- pages in turn

module _ {A : Type 0} (f : ℕ → A) (n p : ℕ) where
  pub along_none : n ≤ p → along f (n - p) p ≡ []
  unfolding along
  along_none h =
      let z : n - p ≡ zero = omega arith in
      rw z

  pub along-next : p < n → along f (n - p) p ≡ f p ∷ along f (n - (p + 1)) (p + 1)
  unfolding along
  along-next h =
      let z : n - p ≡ suc (n - (p + 1)) = omega arith in
      rw z

-- ---- neighbours merged

-- both of two tests hold
pub all_true : (x y : Bool) → cond x y false ≡ true → (x ≡ true) × (y ≡ true)
all_true true y e = (refl, e)
all_true false y e = (e, absurd (false≢true e))

module _ {R : Type 0} (meets : R → R → Bool) (both : R → R → R) where
  -- the first of the others does not meet it
  unfoldable pub Apart : R → List R → Type 0
  Apart r [] = Unit {0}
  Apart r (s ∷ ss) = meets r s ≡ false

  pub joined-apart : (r : R) (ss : List R) → Apart r ss → joined meets both r ss ≡ r ∷ ss
  unfolding joined Apart
  joined-apart r [] a = refl
  joined-apart r (s ∷ ss) a = rw a

  -- whether two runs meet goes by the end of the first and the start of the second; merging is associative
  pub record Merging : Type 0 where
    pub end : (a b c : R) → meets a b ≡ true → meets (both a b) c ≡ meets b c
    pub start : (a b c : R) → meets b c ≡ true → meets a (both b c) ≡ meets a b
    pub thrice : (a b c : R) → both (both a b) c ≡ both a (both b c)

  module _ (w : Merging) where
    -- two runs that meet, before others, are one run before them
    pub joined-both : (a b : R) (ds : List R) → meets a b ≡ true → joined meets both a (joined meets both b ds) ≡ joined meets both (both a b) ds
    unfolding joined
    joined-both a b [] e = rw e
    joined-both a b (d ∷ ds) e = go (meets b d) refl
      where
        go : (c : Bool) → meets b d ≡ c
            → joined meets both a (cond c (both b d ∷ ds) (b ∷ d ∷ ds)) ≡ cond (meets (both a b) d) (both (both a b) d ∷ ds) (both a b ∷ d ∷ ds)
        go true k = rw (w.end a b d e, k, w.start a b d k, e, w.thrice a b d)
        go false k = rw (w.end a b d e, k, e)
