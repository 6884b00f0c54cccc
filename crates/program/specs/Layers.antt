-- A layer above another: the operations below it and its own, over a pair of states.
use Rattle.program.specs.Program.{Prog, ret, ask}

-- an operation of the layer below, or one's own
pub data Plus (Low Own : Type 0) : Type 0 where
  low : Low → Plus Low Own
  own : Own → Plus Low Own

module _ {Low Own : Type 0} where
  abbrev pub ReplyPlus : (Low → Type 0) → (Own → Type 0) → Plus Low Own → Type 0
  ReplyPlus R Q (low o) = R o
  ReplyPlus R Q (own o) = Q o

  module _ {R : Low → Type 0} {Q : Own → Type 0} where
    -- an operation below leaves the upper state alone; one's own may touch both
    abbrev pub over : {S T : Type 0} → ((o : Low) → S → R o × S) → ((o : Own) → S × T → Q o × (S × T))
        → (o : Plus Low Own) → S × T → ReplyPlus R Q o × (S × T)
    over below owns (low o) m = ((below o m.0).0, ((below o m.0).1, m.1))
    over below owns (own o) m = owns o m

    -- a program of the layer below, in this one
    unfoldable pub lift : {A : Type 0} → Prog Low R A → Prog (Plus Low Own) (ReplyPlus R Q) A
    lift (ret x) = ret x
    lift (ask o k) = ask (low o) (λ r. lift (k r))

-- operations of the upper state alone, beside one that they leave alone
abbrev pub beside : {Own : Type 0} {Q : Own → Type 0} {S T : Type 0} → ((o : Own) → T → Q o × T) → (o : Own) → S × T → Q o × (S × T)
beside owns o m = ((owns o m.1).0, (m.0, (owns o m.1).1))
