-- Programs over lists: what questions that change nothing come to, and steps for each element in turn.
use mathlib.Core.Path.{◌≡◌, refl, ap, ◌∙◌}
use mathlib.Core.Bool.{Bool, true, false}
use mathlib.Core.List.{List, [], ◌∷◌, map}
use Prim.Native.Nat.{ℕ, zero, suc, ◌+◌}
use lib.Dec.{eqb}
use lib.ListN.{length}
use Rattle.program.specs.Program.{Prog, ret, run, bind, along, collect, collect_in, each_in}
use Rattle.program.proofs.Laws.{run_bind, then_done, then_stop}

pub length-along : {A : Type 0} (f : ℕ → A) (n p : ℕ) → length (along f n p) ≡ n
unfolding along
length-along f zero p = refl
length-along f (suc n) p = ap suc (length-along f n (p + 1))

pub along-same : {A : Type 0} (f g : ℕ → A) → ((p : ℕ) → f p ≡ g p) → (n p : ℕ) → along f n p ≡ along g n p
unfolding along
along-same f g e zero p = refl
along-same f g e (suc n) p = λ i. e p i ∷ along-same f g e n (p + 1) i

module _ {Op : Type 0} {Reply : Op → Type 0} {S : Type 0} (does : (o : Op) → S → Reply o × S) where
  -- questions that leave the state as it is
  module _ {A : Type 0} (g : ℕ → Prog Op Reply A) (f : ℕ → A) (s : S) (asks : (p : ℕ) → run does (g p) s ≡ (f p, s)) where
    pub collect-run : (n p : ℕ) → run does (collect g n p) s ≡ (along f n p, s)
    unfolding run collect along
    collect-run zero p = refl
    collect-run (suc n) p =
        run_bind does (g p) (λ x. bind (collect g n (p + 1)) (λ xs. ret (x ∷ xs))) s
        ∙ ap {B = List A × S} (λ (r : A × S). run does (bind (collect g n (p + 1)) (λ xs. ret (r.0 ∷ xs))) r.1) (asks p)
        ∙ run_bind does (collect g n (p + 1)) (λ xs. ret (f p ∷ xs)) s
        ∙ ap {B = List A × S} (λ (r : List A × S). (f p ∷ r.0, r.1)) (collect-run n (p + 1))

  -- a step for each element
  module _ {A : Type 0} (g : A → Prog Op Reply ℕ) where
    pub each_in_none : (s : S) → (0, s) ≡ run does (each_in g []) s
    unfolding run each_in
    each_in_none s = refl

    module _ (x : A) (xs : List A) (s : S) (k : ℕ) (t : S) (d : Bool) (q : (k, t) ≡ run does (g x) s) (i : d ≡ eqb k 0) where
      pub each_in_turn : d ≡ true → run does (each_in g xs) t ≡ run does (each_in g (x ∷ xs)) s
      unfolding each_in
      each_in_turn c = then_done does (g x) (each_in g xs) s k t d _ q i c refl

      pub each_in_stop : d ≡ false → (k, t) ≡ run does (each_in g (x ∷ xs)) s
      unfolding each_in
      each_in_stop c = then_stop does (g x) (each_in g xs) s k t d q i c

  -- questions for each element that leave the state as it is
  module _ {A B : Type 0} (g : A → Prog Op Reply B) (f : A → B) (s : S) (asks : (x : A) → run does (g x) s ≡ (f x, s)) where
    pub collect_in_run : (xs : List A) → run does (collect_in g xs) s ≡ (map f xs, s)
    unfolding run collect_in
    collect_in_run [] = refl
    collect_in_run (x ∷ xs) =
        run_bind does (g x) (λ y. bind (collect_in g xs) (λ ys. ret (y ∷ ys))) s
        ∙ ap {B = List B × S} (λ (r : B × S). run does (bind (collect_in g xs) (λ ys. ret (r.0 ∷ ys))) r.1) (asks x)
        ∙ run_bind does (collect_in g xs) (λ ys. ret (f x ∷ ys)) s
        ∙ ap {B = List B × S} (λ (r : List B × S). (f x ∷ r.0, r.1)) (collect_in_run xs)
