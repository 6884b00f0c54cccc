-- A program on storage and the same program on what is seen of it.
use mathlib.Core.Path.{◌≡◌, refl, sym, ap, ◌∙◌, subst₂}
use Rattle.program.specs.Program.{Prog, ret, ask, run}
use Rattle.program.specs.Layers.{Plus, low, own, over, beside}

-- a reply and what is left, beside the same on the view
pub record Like {S W : Type 0} (Good : S → Type 0) (view : S → W) {A : Type 0} (r : A × S) (q : A × W) : Type 0 where
  pub out : r.0 ≡ q.0
  pub good : Good r.1
  pub seen : view r.1 ≡ q.1

-- if each operation is the same on the view, then every program is
module _ {Op : Type 0} {Reply : Op → Type 0} {S W : Type 0} (Good : S → Type 0) (view : S → W)
    (does : (o : Op) → S → Reply o × S) (does_v : (o : Op) → W → Reply o × W)
    (like : (o : Op) (s : S) → Good s → Like Good view (does o s) (does_v o (view s))) where
  pub commutes : {A : Type 0} (g : Prog Op Reply A) (s : S) → Good s → Like Good view (run does g s) (run does_v g (view s))
  unfolding run
  commutes (ret x) s w = record { out = refl; good = w; seen = refl }
  commutes {A} (ask o k) s w =
      let l = like o s w in
      subst₂
      (λ (x : Reply o) (v : W). Like Good view (run does (k (does o s).0) (does o s).1) (run does_v (k x) v))
      l.out
      l.seen
      (commutes (k (does o s).0) (does o s).1 l.good)

  -- two storages that look alike answer every program alike, and look alike afterwards
  pub alike : {A : Type 0} (g : Prog Op Reply A) (s t : S) → Good s → Good t → view s ≡ view t
      → ((run does g s).0 ≡ (run does g t).0) × (view (run does g s).1 ≡ view (run does g t).1)
  alike {A} g s t ws wt e =
      let l = commutes g s ws in
      let r = commutes g t wt in
      let q : run does_v g (view s) ≡ run does_v g (view t) = ap (run does_v g) e in
      (l.out ∙ ap (λ (x : A × W). x.0) q ∙ sym r.out, l.seen ∙ ap (λ (x : A × W). x.1) q ∙ sym r.seen)

-- if the operations below are the same on the view, then so are those of a layer whose own touch the upper state alone
module _ {Low Own : Type 0} {R : Low → Type 0} {Q : Own → Type 0} {S T W : Type 0} (Good : S → Type 0) (view : S → W)
    (below : (o : Low) → S → R o × S) (belowV : (o : Low) → W → R o × W)
    (like : (o : Low) (s : S) → Good s → Like Good view (below o s) (belowV o (view s)))
    (owns : (o : Own) → T → Q o × T) where
  pub like-beside : (o : Plus Low Own) (m : S × T) → Good m.0
      → Like (λ (n : S × T). Good n.0) (λ (n : S × T). (view n.0, n.1)) (over below (beside owns) o m)
      (over belowV (beside owns) o (view m.0, m.1))
  like-beside (low o) m w =
      let l = like o m.0 w in
      record { out = l.out; good = l.good; seen = λ i. (l.seen i, m.1) }
  like-beside (own o) m w = record { out = refl; good = w; seen = refl }
