-- A program of the layer below does in the layer above what it does below, and leaves the upper state alone.
use mathlib.Core.Path.{◌≡◌, refl, sym, ap, ◌∙◌}
use Rattle.program.specs.Program.{Prog, ret, ask, run}
use Rattle.program.specs.Layers.{over, lift}

module _ {Low Own : Type 0} {R : Low → Type 0} {Q : Own → Type 0} {S T : Type 0}
    (below : (o : Low) → S → R o × S) (owns : (o : Own) → S × T → Q o × (S × T)) where
  pub lift-run : {A : Type 0} (g : Prog Low R A) (s : S) (t : T)
      → run (over below owns) (lift g) (s, t) ≡ ((run below g s).0, ((run below g s).1, t))
  unfolding run lift
  lift-run (ret x) s t = refl
  lift-run (ask o k) s t = lift-run (k (below o s).0) (below o s).1 t

  -- what it answered and left below
  pub lifted : {A : Type 0} (g : Prog Low R A) (s : S) (t : T) (x : A) (u : S) → (x, u) ≡ run below g s
      → (x, (u, t)) ≡ run (over below owns) (lift g) (s, t)
  lifted {A} g s t x u e = ap {B = A × (S × T)} (λ (r : A × S). (r.0, (r.1, t))) e ∙ sym (lift-run g s t)
