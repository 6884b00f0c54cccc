-- What a program asks: programs that ask only operations of one kind keep what every operation of that kind keeps.
use mathlib.Core.Bool.{Bool, true, false, cond}
use mathlib.Core.List.{List, [], ◌∷◌}
use Prim.Native.Nat.{ℕ, zero, suc, ◌+◌}
use lib.Dec.{eqb}
use Rattle.program.specs.Program.{Prog, ret, ask, run, bind, onwards, after, each, each_in, collect, collect_in}
use Rattle.program.specs.Layers.{Plus, low, ReplyPlus, lift}
use Rattle.recordfile.specs.Snapshots.{Each}

module _ {Op : Type 0} {Reply : Op → Type 0} (P : Op → Type 0) where
  -- every operation that the program asks, whatever the replies, is of the kind P
  abbrev pub Asks : {A : Type 0} → Prog Op Reply A → Type 0
  Asks (ret x) = Unit {0}
  Asks (ask o k) = P o × ((r : Reply o) → Asks (k r))

  -- what every operation of the kind keeps, the program keeps
  pub asks-kept : {S : Type 0} (does : (o : Op) → S → Reply o × S) (Good : S → Type 0)
      → ((o : Op) → P o → (s : S) → Good s → Good (does o s).1) → {A : Type 0} (g : Prog Op Reply A) → Asks g → (s : S) → Good s
      → Good (run does g s).1
  unfolding run
  asks-kept does Good keep (ret x) a s w = w
  asks-kept does Good keep (ask o k) a s w =
      asks-kept does Good keep (k (does o s).0) (a.1 (does o s).0) (does o s).1 (keep o a.0 s w)

  pub asks_cond : {A : Type 0} (b : Bool) (g h : Prog Op Reply A) → Asks g → Asks h → Asks (cond b g h)
  asks_cond true g h a b = a
  asks_cond false g h a b = b

  pub asks-bind : {A B : Type 0} (g : Prog Op Reply A) (k : A → Prog Op Reply B) → Asks g → ((x : A) → Asks (k x)) → Asks (bind g k)
  unfolding bind
  asks-bind (ret x) k a f = f x
  asks-bind (ask o h) k a f = (a.0, λ r. asks-bind (h r) k (a.1 r) f)

  pub asks-onwards : {A : Type 0} (refused : ℕ → A) (g : Prog Op Reply A) (n : ℕ) → Asks g → Asks (onwards refused g n)
  asks-onwards refused g n a = asks_cond (eqb n 0) g (ret (refused n)) a tt

  pub asks-after : {A : Type 0} (refused : ℕ → A) (g : Prog Op Reply ℕ) (k : Prog Op Reply A) → Asks g → Asks k → Asks (after refused g k)
  unfolding after
  asks-after refused g k a b = asks-bind g (onwards refused k) a (λ n. asks-onwards refused k n b)

  pub asks-each : (g : ℕ → Prog Op Reply ℕ) → ((p : ℕ) → Asks (g p)) → (n p : ℕ) → Asks (each g n p)
  unfolding each
  asks-each g a zero p = tt
  asks-each g a (suc n) p = asks-after (λ n. n) (g p) (each g n (p + 1)) (a p) (asks-each g a n (p + 1))

  pub asks_in : {A : Type 0} (g : A → Prog Op Reply ℕ) (xs : List A) → Each (λ (x : A). Asks (g x)) xs → Asks (each_in g xs)
  unfolding each_in Each
  asks_in g [] a = tt
  asks_in g (x ∷ xs) a = asks-after (λ n. n) (g x) (each_in g xs) a.0 (asks_in g xs a.1)

  pub asks-collect : {A : Type 0} (g : ℕ → Prog Op Reply A) → ((p : ℕ) → Asks (g p)) → (n p : ℕ) → Asks (collect g n p)
  unfolding collect
  asks-collect g a zero p = tt
  asks-collect g a (suc n) p =
      asks-bind (g p) (λ x. bind (collect g n (p + 1)) (λ xs. ret (x ∷ xs))) (a p)
      (λ x. asks-bind (collect g n (p + 1)) (λ xs. ret (x ∷ xs)) (asks-collect g a n (p + 1)) (λ xs. tt))

  pub asks-collect_in : {A B : Type 0} (g : A → Prog Op Reply B) → ((x : A) → Asks (g x)) → (xs : List A) → Asks (collect_in g xs)
  unfolding collect_in
  asks-collect_in g a [] = tt
  asks-collect_in g a (x ∷ xs) =
      asks-bind (g x) (λ y. bind (collect_in g xs) (λ ys. ret (y ∷ ys))) (a x)
      (λ y. asks-bind (collect_in g xs) (λ ys. ret (y ∷ ys)) (asks-collect_in g a xs) (λ ys. tt))

-- a program of the layer below, in this one
module _ {Low Own : Type 0} {R : Low → Type 0} (Q : Own → Type 0) (P : Plus Low Own → Type 0) where
  pub asks-lift : {A : Type 0} (g : Prog Low R A) → Asks {Reply = R} (λ (o : Low). P (low o)) g
      → Asks {Reply = ReplyPlus R Q} P (lift g)
  unfolding lift
  asks-lift (ret x) a = tt
  asks-lift (ask o k) a = (a.0, λ r. asks-lift (k r) (a.1 r))
