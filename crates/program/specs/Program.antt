-- A call as a program over operations: what it asks, in which order, and with what it ends.
use Rattle.std.specs.Prelude.{cond, List, [], ◌∷◌, ℕ, zero, suc, ◌+◌, eqb}

-- a program ends with a result, or asks an operation and goes on with its reply
pub data Prog (Op : Type 0) (Reply : Op → Type 0) (A : Type 0) : Type 0 where
  ret : A → Prog Op Reply A
  ask : (o : Op) → (Reply o → Prog Op Reply A) → Prog Op Reply A

-- what a function is of n numbers from p on
unfoldable pub along : {A : Type 0} → (ℕ → A) → ℕ → ℕ → List A
along f zero p = []
along f (suc n) p = f p ∷ along f n (p + 1)

module _ {Op : Type 0} {Reply : Op → Type 0} where
  -- what a program comes to and leaves, given what each operation replies and leaves
  unfoldable pub run : {S A : Type 0} → ((o : Op) → S → Reply o × S) → Prog Op Reply A → S → A × S
  run does (ret x) s = (x, s)
  run does (ask o k) s = run does (k (does o s).0) (does o s).1

  -- one program, and another that is given its result
  unfoldable pub bind : {A B : Type 0} → Prog Op Reply A → (A → Prog Op Reply B) → Prog Op Reply B
  bind (ret x) k = k x
  bind (ask o f) k = ask o (λ r. bind (f r) k)

  -- one operation
  abbrev pub perform : (o : Op) → Prog Op Reply (Reply o)
  perform o = ask o ret

  -- a check or a step that answers a number, then the rest; where the number is not 0 it is a refusal, and the answer
  abbrev pub onwards : {A : Type 0} → (ℕ → A) → Prog Op Reply A → ℕ → Prog Op Reply A
  onwards refused k n = cond (eqb n 0) k (ret (refused n))

  unfoldable pub after : {A : Type 0} → (ℕ → A) → Prog Op Reply ℕ → Prog Op Reply A → Prog Op Reply A
  after refused g k = bind g (onwards refused k)

  -- the same where the answer is the number alone
  abbrev pub and_then : Prog Op Reply ℕ → Prog Op Reply ℕ → Prog Op Reply ℕ
  and_then g k = after (λ n. n) g k

  -- what n programs from p on come to, in a list
  unfoldable pub collect : {A : Type 0} → (ℕ → Prog Op Reply A) → ℕ → ℕ → Prog Op Reply (List A)
  collect g zero p = ret []
  collect g (suc n) p = bind (g p) (λ x. bind (collect g n (p + 1)) (λ xs. ret (x ∷ xs)))

  -- what a program comes to for each element of a list
  unfoldable pub collect_in : {A B : Type 0} → (A → Prog Op Reply B) → List A → Prog Op Reply (List B)
  collect_in g [] = ret []
  collect_in g (x ∷ xs) = bind (g x) (λ y. bind (collect_in g xs) (λ ys. ret (y ∷ ys)))

  -- a step for each element of a list, in turn, and the first that refuses decides
  unfoldable pub each_in : {A : Type 0} → (A → Prog Op Reply ℕ) → List A → Prog Op Reply ℕ
  each_in g [] = ret 0
  each_in g (x ∷ xs) = and_then (g x) (each_in g xs)

  -- "pages ascending, the first page that ..": n pages from p on, and the first that refuses decides
  unfoldable pub each : (ℕ → Prog Op Reply ℕ) → ℕ → ℕ → Prog Op Reply ℕ
  each g zero p = ret 0
  each g (suc n) p = and_then (g p) (each g n (p + 1))
