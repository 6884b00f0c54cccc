-- Programs in turn: one law for each way in which a step of a call can go on or end.
use mathlib.Core.Path.{◌≡◌, refl, sym, ap, ◌∙◌}
use mathlib.Core.Bool.{Bool, true, false, cond}
use Prim.Native.Nat.{ℕ, suc, ◌+◌}
use lib.Dec.{eqb}
use Rattle.program.specs.Program.{Prog, ret, ask, run, bind, onwards, after, and_then, each}

module _ {Op : Type 0} {Reply : Op → Type 0} {S : Type 0} (does : (o : Op) → S → Reply o × S) where
  pub run_bind : {A B : Type 0} (g : Prog Op Reply A) (k : A → Prog Op Reply B) (s : S)
      → run does (bind g k) s ≡ run does (k (run does g s).0) (run does g s).1
  unfolding run bind
  run_bind (ret x) k s = refl
  run_bind (ask o f) k s = run_bind (f (does o s).0) k (does o s).1

  -- a step that answered n and left t
  module _ {A : Type 0} (refused : ℕ → A) (g : Prog Op Reply ℕ) (k : Prog Op Reply A) (s : S) (n : ℕ) (t : S) where
    pub after_run : (n, t) ≡ run does g s → run does (after refused g k) s ≡ run does (onwards refused k n) t
    unfolding after
    after_run e =
        run_bind g (onwards refused k) s ∙ sym (ap (λ (x : ℕ × S). run does (onwards refused k x.0) x.1) e)

    -- it is done: the rest goes on from there
    pub after-done : (d : Bool) (r : A × S) → (n, t) ≡ run does g s → d ≡ eqb n 0 → d ≡ true → r ≡ run does k t
        → r ≡ run does (after refused g k) s
    after-done d r e i c q =
        q ∙ ap (λ (b : Bool). run does (cond b k (ret (refused n))) t) (sym c ∙ i) ∙ sym (after_run e)

    -- it refuses: that is the answer
    pub after_stop : (d : Bool) → (n, t) ≡ run does g s → d ≡ eqb n 0 → d ≡ false
        → (refused n, t) ≡ run does (after refused g k) s
    unfolding run
    after_stop d e i c =
        ap (λ (b : Bool). run does (cond b k (ret (refused n))) t) (sym c ∙ i) ∙ sym (after_run e)

  -- the same where the answer is the number alone
  module _ (g k : Prog Op Reply ℕ) (s : S) (n : ℕ) (t : S) (d : Bool) where
    pub then_done : (r : ℕ × S) → (n, t) ≡ run does g s → d ≡ eqb n 0 → d ≡ true → r ≡ run does k t
        → r ≡ run does (and_then g k) s
    then_done r e i c q = after-done (λ n. n) g k s n t d r e i c q

    pub then_stop : (n, t) ≡ run does g s → d ≡ eqb n 0 → d ≡ false → (n, t) ≡ run does (and_then g k) s
    then_stop e i c = after_stop (λ n. n) g k s n t d e i c

  -- a loop over pages, a turn at a time
  module _ (g : ℕ → Prog Op Reply ℕ) (s : S) (n p : ℕ) where
    pub each_none : n ≡ 0 → (0, s) ≡ run does (each g n p) s
    unfolding run each
    each_none e = rw e

    module _ (m : ℕ) (e : n ≡ suc m) (k : ℕ) (t : S) (d : Bool) (q : (k, t) ≡ run does (g p) s) (i : d ≡ eqb k 0) where
      pub each_turn : d ≡ true → run does (each g m (p + 1)) t ≡ run does (each g n p) s
      unfolding each
      each_turn c = rw e (then_done (g p) (each g m (p + 1)) s k t d _ q i c refl)

      pub each-stop : d ≡ false → (k, t) ≡ run does (each g n p) s
      unfolding each
      each-stop c = rw e (then_stop (g p) (each g m (p + 1)) s k t d q i c)
