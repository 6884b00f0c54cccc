-- Mark program: an action in the cases in which it ends, and the actions in turn.
use Rattle.std.proofs.Common.{◌≡◌, ℕ, ◌+◌, ◌-◌, ◌*◌, ◌/◌, ◌<◌, ◌≤◌, min, Bool, false, cond, eqb, ltb, List, ◌++◌, length, get_or, drop, sym, ap, ◌∙◌, arith, le-ltb, lt-ltb}
use Rattle.program.specs.Program.{ret, run}
use Rattle.machine.specs.Fresh.{Tracked}
use Rattle.tracking.specs.declared.context.LoadingAction.{LoadingAction}
use Rattle.tracking.specs.Operations.{Call, does, top}
use Rattle.tracking.specs.Tracking.{track_pages, action_words, action_at, mark_action, mark_actions}
use Rattle.tracking.proofs.Groups.{groups_end, group-there, group-at, group-next}
use Rattle.tracking.proofs.InTurn.{Left, left_none, left-stop, left-turn}

-- ---- one action

-- a test that refuses, and one that doesn't
module _ (s : Tracked) (k : Call ℕ) (a b : ℕ) where
  refused : a < b → (2, s) ≡ run does (cond (ltb a b) (ret 2) k) s
  unfolding run
  refused h = ap (λ (b : Bool). run does (cond b (ret 2) k) s) (sym (lt-ltb a b h))

  passed : (r : ℕ × Tracked) → b ≤ a → r ≡ run does k s → r ≡ run does (cond (ltb a b) (ret 2) k) s
  passed r h q = q ∙ ap (λ (b : Bool). run does (cond b (ret 2) k) s) (sym (le-ltb a b h))

module _ (s : Tracked) (id offset : ℕ) (action : LoadingAction) where
  pub address-past : top < action.addr + action.lead → (2, s) ≡ run does (mark_action id offset action) s
  unfolding mark_action
  address-past h = refused s _ _ _ h

  module _ (a : action.addr + action.lead ≤ top) where
    pub source-past : action.end < action.start → (2, s) ≡ run does (mark_action id offset action) s
    unfolding mark_action
    source-past h = passed s _ _ _ _ a (refused s _ _ _ h)

    module _ (b : action.start ≤ action.end) where
      pub lead_past : action.size < action.lead → (2, s) ≡ run does (mark_action id offset action) s
      unfolding mark_action
      lead_past h = passed s _ _ _ _ a (passed s _ _ _ _ b (refused s _ _ _ h))

      module _ (c : action.lead ≤ action.size) where
        pub offset-past : top < offset + action.start → (2, s) ≡ run does (mark_action id offset action) s
        unfolding mark_action
        offset-past h = passed s _ _ _ _ a (passed s _ _ _ _ b (passed s _ _ _ _ c (refused s _ _ _ h)))

        pub action_tracked : (n x y : ℕ) (r : ℕ × Tracked) → offset + action.start ≤ top
            → n ≡ min (action.end - action.start) (action.size - action.lead) → x ≡ action.addr + action.lead → y ≡ offset + action.start
            → r ≡ run does (track_pages x n id y) s
            → r ≡ run does (mark_action id offset action) s
        unfolding mark_action
        action_tracked n x y r h e f g q =
            passed s _ _ _ r a (passed s _ _ _ r b (passed s _ _ _ r c (passed s _ _ _ r h (rw (e, f, g) at q))))

-- ---- the actions in turn

-- one of them
abbrev mark_at : List ℕ → ℕ → ℕ → ℕ → Call ℕ
mark_at actions id offset i = mark_action id offset (action_at actions i)

-- the actions from i on come to what all come to
abbrev pub Marking : List ℕ → ℕ → ℕ → Tracked → Tracked → ℕ → Type 0
Marking actions id offset s₀ s i =
    Left (mark_at actions id offset) s₀ (length actions / action_words) 0 s (length actions / action_words - i) i

module _ (actions : List ℕ) (id offset : ℕ) (s₀ s : Tracked) (i : ℕ) (g : Marking actions id offset s₀ s i)
    (rest : List ℕ) (r : rest ≡ drop (i * action_words) actions) where
  pub marked_all : length rest < action_words → (0, s) ≡ run does (mark_actions actions id offset) s₀
  unfolding mark_actions
  marked_all h =
      let n = groups_end actions rest action_words i r h in
      left_none _ _ _ _ _ _ _ g (omega arith)

  -- the words of the next action, and what is left after them
  module _ (w after : List ℕ) (c : rest ≡ w ++ after) (n : length w ≡ action_words) (x : LoadingAction) (a : x ≡ action_at w 0)
      (k : ℕ) (t : Tracked) (e : (k, t) ≡ run does (mark_action id offset x) s) where
    there : i * action_words + action_words ≤ length actions
    there = group-there actions rest action_words i r w after c n (omega arith)

    at : (k : ℕ) → k < action_words → get_or w k 0 ≡ get_or actions (i * action_words + k) 0
    at k h = group-at actions rest action_words i r w after c n k h

    first : get_or w 0 0 ≡ get_or actions (i * action_words) 0
    first = at 0 (omega arith) ∙ ap (λ (n : ℕ). get_or actions n 0) (omega arith)

    same : x ≡ action_at actions i
    same = a ∙ rw (first, at 1 (omega arith), at 2 (omega arith), at 3 (omega arith), at 4 (omega arith), at 5 (omega arith))

    one : (k, t) ≡ run does (mark_at actions id offset i) s
    one = e ∙ ap (λ (x : LoadingAction). run does (mark_action id offset x) s) same

    pub marking_stop : false ≡ eqb k 0 → (k, t) ≡ run does (mark_actions actions id offset) s₀
    unfolding mark_actions
    marking_stop b = left-stop _ _ _ _ _ _ _ g (length actions / action_words - (i + 1)) (omega (arith, there)) t k one b

    pub marking_next : k ≡ 0 → Marking actions id offset s₀ t (i + 1)
    marking_next z = left-turn _ _ _ _ _ _ _ g (length actions / action_words - (i + 1)) (omega (arith, there)) t (rw z at one)

    pub words-next : after ≡ drop ((i + 1) * action_words) actions
    words-next = group-next actions rest action_words i r w after c n ∙ ap (λ (n : ℕ). drop n actions) (omega arith)
