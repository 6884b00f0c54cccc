-- What every operation keeps, every program keeps; and which results a program can end with.
use mathlib.Core.Bool.{Bool, true, false, cond}
use Prim.Native.Nat.{ℕ, zero, suc, ◌+◌}
use lib.Dec.{eqb}
use Rattle.program.specs.Program.{Prog, ret, ask, run, bind, onwards, after, each}

module _ {Op : Type 0} {Reply : Op → Type 0} where
  -- every result of the program is of the kind P, as long as every reply is of the kind Can
  abbrev pub Ends : {A : Type 0} → ((o : Op) → Reply o → Type 0) → (A → Type 0) → Prog Op Reply A → Type 0
  Ends Can P (ret x) = P x
  Ends Can P (ask o k) = (r : Reply o) → Can o r → Ends Can P (k r)

  module _ {S : Type 0} (does : (o : Op) → S → Reply o × S) (Good : S → Type 0) where
    -- an operation keeps Good
    pub kept : ((o : Op) (s : S) → Good s → Good (does o s).1) → {A : Type 0} (g : Prog Op Reply A) (s : S) → Good s
        → Good (run does g s).1
    unfolding run
    kept keep (ret x) s w = w
    kept keep (ask o k) s w = kept keep (k (does o s).0) (does o s).1 (keep o s w)

    -- and replies in kind
    pub ends : (Can : (o : Op) → Reply o → Type 0) → ((o : Op) (s : S) → Good s → Good (does o s).1)
        → ((o : Op) (s : S) → Good s → Can o (does o s).0)
        → {A : Type 0} (P : A → Type 0) (g : Prog Op Reply A) (s : S) → Good s → Ends Can P g → P (run does g s).0
    unfolding run
    ends Can keep can P (ret x) s w e = e
    ends Can keep can P (ask o k) s w e =
        ends Can keep can P (k (does o s).0) (does o s).1 (keep o s w) (e (does o s).0 (can o s w))

  -- the kinds of results of programs put together
  module _ (Can : (o : Op) → Reply o → Type 0) where
    pub ends-bind : {A B : Type 0} (P : A → Type 0) (Q : B → Type 0) (g : Prog Op Reply A) (k : A → Prog Op Reply B)
        → Ends Can P g → ((x : A) → P x → Ends Can Q (k x)) → Ends Can Q (bind g k)
    unfolding bind
    ends-bind P Q (ret x) k e f = f x e
    ends-bind P Q (ask o h) k e f = λ r c. ends-bind P Q (h r) k (e r c) f

    ends_cond : {A : Type 0} (Q : A → Type 0) (b : Bool) (g h : Prog Op Reply A) → Ends Can Q g → Ends Can Q h → Ends Can Q (cond b g h)
    ends_cond Q true g h e f = e
    ends_cond Q false g h e f = f

    pub ends-after : {A : Type 0} (P : ℕ → Type 0) (Q : A → Type 0) (refused : ℕ → A) (g : Prog Op Reply ℕ) (k : Prog Op Reply A)
        → Ends Can P g → ((n : ℕ) → P n → Q (refused n)) → Ends Can Q k → Ends Can Q (after refused g k)
    unfolding after
    ends-after P Q refused g k e f h =
        ends-bind P Q g (onwards refused k) e (λ n p. ends_cond Q (eqb n 0) k (ret (refused n)) h (f n p))

    pub ends-each : (P : ℕ → Type 0) (g : ℕ → Prog Op Reply ℕ) → P 0 → ((p : ℕ) → Ends Can P (g p)) → (n p : ℕ) → Ends Can P (each g n p)
    unfolding each
    ends-each P g z e zero p = z
    ends-each P g z e (suc n) p = ends-after P P (λ n. n) (g p) (each g n (p + 1)) (e p) (λ n h. h) (ends-each P g z e n (p + 1))
