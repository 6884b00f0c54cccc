-- What a caller sees of a machine: every operation is the same on the view, so every program and every call is, and two machines
-- that look alike answer alike.
use mathlib.Core.Path.{◌≡◌, refl, sym, ap, ap₂, ◌∙◌, fun_ext}
use mathlib.Core.Bool.{Bool, true, false, cond}
use mathlib.Core.List.{List, [], ◌∷◌}
use mathlib.Core.Logic.{◌≢◌}
use Prim.Native.Nat.{ℕ, ◌+◌, ◌*◌, ◌%◌, ◌<◌}
use native.Mathlib.Decide.{ℕ_discrete}
use native.Mathlib.Omega.{arith}
use lib.ListN.{length, get_or, set, length-set}
use lib.Seq.{get_or-set_same, get_or-set_other}
use lib.Dec.{ltb, leb, eqb}
use lib.Bits.{bit_and, bit_or, and_le_r}
use borrow.Author.Tests.{le-ltb, eq-eqb, ne_eqb, eqb-true, eqb-false, ltb-true}
use Rattle.bits.specs.Rounding.{page_size}
use Rattle.words.specs.Bytes.{filled}
use Rattle.words.proofs.Filled.{filled_zero}
use Rattle.program.specs.Program.{run}
use Rattle.program.specs.Layers.{low, own}
use Rattle.program.proofs.Like.{Like, commutes, alike, like-beside}
use Rattle.memory.specs.Pages.{dirty}
use Rattle.memory.specs.Storage.{State, state_of, or_flag}
use Rattle.memory.specs.Operations.{or! }
use Rattle.memory.specs.View as memory
use Rattle.memory.proofs.StoreCases.{cases}
use Rattle.memory.proofs.Dirty.{dirty-set, dirty-cleared}
use Rattle.memory.proofs.WellFormed as memory-formed
use Rattle.memory.proofs.Seen as memory-laws
use Rattle.machine.specs.Numbers.{fresh_numbers}
use Rattle.machine.specs.Fresh.{Tracked, LentMachine, record_words, fresh}
use Rattle.machine.specs.Operations as machine
use Rattle.tracking.specs.declared.records.Tracking.{Tracking}
use Rattle.tracking.specs.declared.records.Tracking.TheVariants as tracking
use Rattle.tracking.specs.Records.{tracked_mark, record_of, record_at, with_words, with_record}
use Rattle.tracking.specs.Operations.{lengths?, entry?, track!, drop!, drop_all!, AnyOp, MachineOp, masked, entry_in, marked, clean, track_page, drop_page, does, machine_does, Call, MachineCall, top}
use Rattle.recordfile.specs.Snapshots.{Each}
use Rattle.handover.specs.View.{Whole, View, view, remasked, entry_at, tracked_v, does_v, clear_flag_v, MachineView, view_machine, WholeMachine, machine_does_v}
use Rattle.handover.specs.Calls.{Named, program, Given, named, clear_flag_call, fresh_call, clear_flag, Later, Careful, answer, Told, told, answers, leaves}
use Rattle.handover.proofs.WellFormed.{whole-formed, lengths_reply, marked-whole, op_whole, clear_whole, given_whole, fresh-told, fresh-done}

-- ---- the record of a dirty page is not seen

pub mask_clean : (f : ℕ) (t : Tracking) → bit_and f dirty ≡ 0 → masked f t ≡ t
unfolding masked
mask_clean f t e = rw (eq-eqb (bit_and f dirty) 0 e)

pub mask_dirty : (f : ℕ) (t : Tracking) → bit_and f dirty ≢ 0 → masked f t ≡ tracking.Untracked
unfolding masked
mask_dirty f t n = rw (ne_eqb (bit_and f dirty) 0 n)

-- nor what it was before, where no dirty flag was made clean
pub mask_twice : (f g : ℕ) (t : Tracking) → (bit_and g dirty ≡ 0 → bit_and f dirty ≡ 0) → masked g (masked f t) ≡ masked g t
mask_twice f g t h = elim (ℕ_discrete (bit_and g dirty) 0) [
  | yes e ↦ ap (masked g) (mask_clean f t (h e))
  | no n ↦ mask_dirty g (masked f t) n ∙ sym (mask_dirty g t n)
]

-- ---- a record written, and read again

module _ (records : List ℕ) (p id offset mark : ℕ) where
  -- the words of other pages
  words-other : (i : ℕ) → i ≢ p * record_words → i ≢ p * record_words + 1 → i ≢ p * record_words + 2
      → get_or (with_words records p id offset mark) i 0 ≡ get_or records i 0
  words-other i a b c = simp get_or-set_other

  record_around : (q : ℕ) → q ≢ p → record_at (with_words records p id offset mark) q ≡ record_at records q
  record_around q n = λ i.
      record_of (words-other (q * record_words) (omega arith) (omega arith) (omega arith) i)
      (words-other (q * record_words + 1) (omega arith) (omega arith) (omega arith) i)
      (words-other (q * record_words + 2) (omega arith) (omega arith) (omega arith) i)

  -- the page's own
  abbrev one : List ℕ
  one = set records (p * record_words) id

  abbrev two : List ℕ
  two = set one (p * record_words + 1) offset

  record_there : p * record_words + 2 < length records → record_at (with_words records p id offset mark) p ≡ record_of id offset mark
  record_there h = λ i. record_of (a i) (b i) (c i)
    where
      a : get_or (with_words records p id offset mark) (p * record_words) 0 ≡ id
      a =
          get_or-set_other two (p * record_words + 2) (p * record_words) mark 0 (omega arith)
          ∙ get_or-set_other one (p * record_words + 1) (p * record_words) offset 0 (omega arith)
          ∙ get_or-set_same records (p * record_words) id 0 (omega arith)

      b : get_or (with_words records p id offset mark) (p * record_words + 1) 0 ≡ offset
      b =
          get_or-set_other two (p * record_words + 2) (p * record_words + 1) mark 0 (omega arith)
          ∙ get_or-set_same one (p * record_words + 1) offset 0 (simp length-set (omega arith))

      c : get_or (with_words records p id offset mark) (p * record_words + 2) 0 ≡ mark
      c = get_or-set_same two (p * record_words + 2) mark 0 (simp length-set h)

pub record_other : (records : List ℕ) (p q : ℕ) (t : Tracking) → q ≢ p → record_at (with_record records p t) q ≡ record_at records q
record_other records p q tracking.Untracked n = record_around records p 0 0 0 q n
record_other records p q (tracking.Tracked id offset flag) n = record_around records p id offset (tracked_mark + flag) q n

pub record_same : (records : List ℕ) (p id offset flag : ℕ) → p * record_words + 2 < length records → flag < tracked_mark
    → record_at (with_record records p (tracking.Tracked id offset flag)) p ≡ tracking.Tracked id offset flag
unfolding record_of
record_same records p id offset flag h k =
    let z : (tracked_mark + flag) % tracked_mark ≡ flag = omega arith in
    record_there records p id offset (tracked_mark + flag) h ∙ rw (le-ltb (tracked_mark + flag) tracked_mark (omega arith), z)

-- ---- one operation

looks : {A : Type 0} (m : Tracked) → Whole m → (x y : A) → x ≡ y → Like Whole view (x, m) (y, view m)
looks m w x y e = record { out = e; good = w; seen = refl }

-- what is done to the memory, where no dirty flag is made clean, beside records that may change where it is dirty
module _ {A : Type 0} (m : Tracked) (r : A × State) (v : A × memory.View) (l : Like memory.Whole memory.view r v)
    (dirties : (q : ℕ) → bit_and (v.1.flag q) dirty ≡ 0 → bit_and (get_or m.0.flags q 0) dirty ≡ 0)
    (records : List ℕ) (good : Whole (r.1, records))
    (same : (q : ℕ) → masked (v.1.flag q) (record_at records q) ≡ masked (v.1.flag q) (record_at m.1 q)) where
  entries : entry_in r.1.flags records ≡ (λ (q : ℕ). masked (v.1.flag q) (entry_in m.0.flags m.1 q))
  entries =
      fun_ext λ q.
      ap (λ (u : memory.View). masked (u.flag q) (record_at records q)) l.seen
      ∙ same q
      ∙ sym (mask_twice (get_or m.0.flags q 0) (v.1.flag q) (record_at m.1 q) (dirties q))

  below : Like Whole view (r.0, (r.1, records)) (remasked (view m) v)
  below = record { out = l.out; good = good; seen = λ i. record { memory = l.seen i; entry = entries i } }

-- a dropped record is not missed: the page is dirty
module _ (m : Tracked) (w : Whole m) (p : ℕ) where
  abbrev dirtied : ℕ
  dirtied = bit_or (get_or m.0.flags p 0) dirty

  abbrev dropped : List ℕ
  dropped = with_record m.1 p tracking.Untracked

  abbrev after : State
  after = state_of m.0.slots (set m.0.flags p dirtied) m.0.area m.0.memory

  abbrev seen-after : ℕ × memory.View
  seen-after = memory.does_v (or! p dirty) (memory.view m.0)

  drop-same : p < length m.0.flags → memory.view after ≡ seen-after.1
      → (q : ℕ) → masked (seen-after.1.flag q) (record_at dropped q) ≡ masked (seen-after.1.flag q) (record_at m.1 q)
  drop-same h e q = elim (ℕ_discrete q p) [
    | yes z ↦
        let f : get_or (set m.0.flags p dirtied) q 0 ≡ dirtied = rw z (get_or-set_same m.0.flags p dirtied 0 h) in
        let g : seen-after.1.flag q ≡ dirtied = sym (ap (λ (u : memory.View). u.flag q) e) ∙ f in
        let n : bit_and (seen-after.1.flag q) dirty ≢ 0 = rw g (omega (arith, dirty-set (get_or m.0.flags p 0))) in
        mask_dirty (seen-after.1.flag q) _ n ∙ sym (mask_dirty (seen-after.1.flag q) _ n)
    | no n ↦ ap (masked (seen-after.1.flag q)) (record_other m.1 p q tracking.Untracked n)
  ]

  drop-like : Like Whole view (does (own (drop! p)) m) (does_v (own (drop! p)) (view m))
  unfolding drop_page or_flag
  drop-like = go (ltb p (length m.0.flags)) refl (memory-laws.like (or! p dirty) m.0 w.memory)
    where
      dirties : (q : ℕ) → bit_and (seen-after.1.flag q) dirty ≡ 0 → bit_and (get_or m.0.flags q 0) dirty ≡ 0
      dirties = memory-laws.op_dirty (or! p dirty) (memory.view m.0)

      go : (b : Bool) → ltb p (length m.0.flags) ≡ b
          → Like memory.Whole memory.view {A = ℕ} (cond b (0, after) (2, m.0)) seen-after
          → Like Whole view {A = ℕ} (cond b (0, (after, dropped)) (2, m)) (remasked (view m) seen-after)
      go true e l =
          below m (0, after) seen-after l dirties dropped (marked-whole m w p dirtied tracking.Untracked)
          (drop-same (ltb-true _ _ e) l.seen)
      go false e l = below m (2, m.0) seen-after l dirties m.1 w (λ q. refl)

-- a page that is tracked is clean, so that its record is seen
module _ (m : Tracked) (w : Whole m) (p id offset : ℕ) (inside : p < length m.0.flags) where
  abbrev f : ℕ
  f = clean m.0.flags p

  abbrev t : Tracking
  t = tracking.Tracked id offset f

  flag-seen : memory.view (state_of m.0.slots (set m.0.flags p f) m.0.area m.0.memory)
      ≡ memory.flagged (memory.view m.0) p f
  flag-seen = memory-laws.flag-seen m.0 w.memory.formed p f (omega (arith, w.memory.formed.fit.flags_are))

  entry_seen : entry_in (set m.0.flags p f) (with_record m.1 p t) ≡ entry_at (entry_in m.0.flags m.1) p t
  unfolding entry_at
  entry_seen =
      fun_ext λ q.
      cases (λ (x : Tracking). entry_in (set m.0.flags p f) (with_record m.1 p t) q ≡ x) (eqb q p) _ _
      (λ e. ap (entry_in (set m.0.flags p f) (with_record m.1 p t)) (eqb-true q p e) ∙ here)
      (λ e. other q (eqb-false q p e))
    where
      here : entry_in (set m.0.flags p f) (with_record m.1 p t) p ≡ t
      here =
          ap (λ (x : ℕ). masked x (record_at (with_record m.1 p t) p)) (get_or-set_same m.0.flags p f 0 inside)
          ∙ mask_clean f _ (dirty-cleared (get_or m.0.flags p 0))
          ∙ record_same m.1 p id offset f (omega (arith, w.records_are)) (omega (arith, and_le_r (get_or m.0.flags p 0) 251))

      other : (q : ℕ) → q ≢ p → entry_in (set m.0.flags p f) (with_record m.1 p t) q ≡ entry_in m.0.flags m.1 q
      other q n = λ i. masked (get_or-set_other m.0.flags p q f 0 n i) (record_other m.1 p q t n i)

  marked-like : Like Whole view {A = ℕ} (0, marked m p f t) (0, tracked_v (view m) p id offset)
  marked-like =
      record { out = refl; good = marked-whole m w p f t; seen = λ i. record { memory = flag-seen i; entry = entry_seen i } }

track-like : (m : Tracked) (w : Whole m) (p id offset : ℕ)
    → Like Whole view (does (own (track! p id offset)) m) (does_v (own (track! p id offset)) (view m))
unfolding track_page
track-like m w p id offset =
    rw (← w.memory.formed.fit.flags_are) (go (ltb p (length m.0.flags)) (leb (offset + page_size) top) refl)
  where
    done : ℕ × Tracked
    done = (0, marked m p (clean m.0.flags p) (tracking.Tracked id offset (clean m.0.flags p)))

    go : (b c : Bool) → ltb p (length m.0.flags) ≡ b
        → Like Whole view {A = ℕ} (cond b (cond c done (2, m)) (2, m))
        (cond b (cond c (0, tracked_v (view m) p id offset) (2, view m)) (2, view m))
    go true true e = marked-like m w p id offset (ltb-true _ _ e)
    go true false e = looks m w 2 2 refl
    go false c e = looks m w 2 2 refl

-- a page of three zeros is untracked
untracked : (flag n p : ℕ) → masked flag (record_at (filled n 0) p) ≡ tracking.Untracked
unfolding masked record_of
untracked flag n p =
    rw (filled_zero n (p * record_words + 2))
    (cases (λ (t : Tracking). t ≡ tracking.Untracked) (eqb (bit_and flag dirty) 0) _ _ (λ e. refl) (λ e. refl))

pub like : (o : AnyOp) (m : Tracked) → Whole m → Like Whole view (does o m) (does_v o (view m))
like (low o) m w =
    below m _ _ (memory-laws.like o m.0 w.memory) (memory-laws.op_dirty o (memory.view m.0)) m.1 (op_whole (low o) m w)
    (λ q. refl)
like (own lengths?) m w = looks m w _ _ (lengths_reply m (whole-formed m w))
like (own (entry? p)) m w = looks m w _ _ refl
like (own (track! p id offset)) m w = track-like m w p id offset
like (own (drop! p)) m w = drop-like m w p
like (own drop_all!) m w =
    record {
      out = refl;
      good = op_whole (own drop_all!) m w;
      seen = λ i.
          record {
            memory = memory.view m.0;
            entry = fun_ext (λ p. untracked (get_or m.0.flags p 0) (length m.1) p) i;
          };
    }

-- with the machine's numbers
pub machine-like : (o : MachineOp) (m : LentMachine) → WholeMachine m
    → Like WholeMachine view_machine (machine_does o m) (machine_does_v o (view_machine m))
machine-like = like-beside Whole view does does_v like machine.does

-- ---- every program, and every call

pub program-seen : {A : Type 0} (g : Call A) (m : Tracked) → Whole m → Like Whole view (run does g m) (run does_v g (view m))
program-seen g m w = commutes Whole view does does_v like g m w

pub machine-seen : {A : Type 0} (g : MachineCall A) (m : LentMachine) → WholeMachine m
    → Like WholeMachine view_machine (run machine_does g m) (run machine_does_v g (view_machine m))
machine-seen g m w = commutes WholeMachine view_machine machine_does machine_does_v machine-like g m w

pub seen : (c : Named) (m : LentMachine) → WholeMachine m
    → Like WholeMachine view_machine (run machine_does (program c) m) (run machine_does_v (program c) (view_machine m))
seen c m w = machine-seen (program c) m w

-- a flag is a byte; where its dirty bit isn't cleared
pub clear_seen : (p f : ℕ) → f < 256 → bit_and f dirty ≡ 0 → (m : Tracked) → Whole m
    → Like Whole view (clear_flag p f m) (clear_flag_v p f (view m))
clear_seen p f h n m w =
    below m _ _ (memory-laws.clear_seen p f m.0 w.memory) (memory-laws.clear_dirty p f (memory.view m.0) h n) m.1
    (clear_whole p f m w)
    (λ q. refl)

-- ---- machines that look alike

pub programs_alike : {A : Type 0} (g : MachineCall A) (m n : LentMachine) → WholeMachine m → WholeMachine n
    → view_machine m ≡ view_machine n
    → ((run machine_does g m).0 ≡ (run machine_does g n).0)
    × (view_machine (run machine_does g m).1 ≡ view_machine (run machine_does g n).1)
programs_alike g m n wm wn e = alike WholeMachine view_machine machine_does machine_does_v machine-like g m n wm wn e

pub equal_answers : (c : Named) (m n : LentMachine) → WholeMachine m → WholeMachine n → view_machine m ≡ view_machine n
    → ((run machine_does (program c) m).0 ≡ (run machine_does (program c) n).0)
    × (view_machine (run machine_does (program c) m).1 ≡ view_machine (run machine_does (program c) n).1)
equal_answers c m n wm wn e = programs_alike (program c) m n wm wn e

pub equal_clear : (p f : ℕ) → f < 256 → bit_and f dirty ≡ 0 → (m n : Tracked) → Whole m → Whole n → view m ≡ view n
    → ((clear_flag p f m).0 ≡ (clear_flag p f n).0) × (view (clear_flag p f m).1 ≡ view (clear_flag p f n).1)
equal_clear p f h k m n wm wn e =
    let l = clear_seen p f h k m wm in
    let r = clear_seen p f h k n wn in
    let q : clear_flag_v p f (view m) ≡ clear_flag_v p f (view n) = ap (clear_flag_v p f) e in (
      l.out ∙ ap (λ (x : ℕ × View). x.0) q ∙ sym r.out,
      l.seen ∙ ap (λ (x : ℕ × View). x.1) q ∙ sym r.seen,
    )

pub equal_given : (g : Given) → Careful g → (m n : LentMachine) → WholeMachine m → WholeMachine n
    → view_machine m ≡ view_machine n
    → ((answer g m).0 ≡ (answer g n).0) × (view_machine (answer g m).1 ≡ view_machine (answer g n).1)
equal_given (named c) k m n wm wn e = equal_answers c m n wm wn e
equal_given (clear_flag_call p f) k m n wm wn e =
    let h = equal_clear p f k.0 k.1 m.0 n.0 wm wn (ap (λ (v : MachineView). v.0) e) in
    (h.0, λ i. (h.1 i, (e i).1))
equal_given (fresh_call size version maximum) k m n wm wn e = absurd k

pub careful_later : (g : Given) → Careful g → Later g
careful_later (named c) k = tt
careful_later (clear_flag_call p f) k = tt
careful_later (fresh_call size version maximum) k = absurd k

pub equal_calls : (gs : List Given) → Each Careful gs → (m n : LentMachine) → WholeMachine m → WholeMachine n
    → view_machine m ≡ view_machine n
    → (answers gs m ≡ answers gs n) × (view_machine (leaves gs m) ≡ view_machine (leaves gs n))
unfolding answers leaves Each
equal_calls [] k m n wm wn e = (refl, e)
equal_calls (g ∷ gs) k m n wm wn e =
    let h = equal_given g k.0 m n wm wn e in
    let r = equal_calls gs k.1 _ _ (given_whole g (careful_later g k.0) m wm) (given_whole g (careful_later g k.0) n wn) h.1 in
    (ap₂ {C = List Told} (λ x l. told g x ∷ l) h.0 r.0, r.1)

-- ---- a fresh machine

-- its memory blank, and every page untracked
abbrev pub blank : ℕ → View
blank size = record { memory = memory-laws.blank size; entry = λ p. tracking.Untracked }

module _ (slots flags area records : List ℕ) (size version maximum : ℕ)
    (done : (fresh slots flags area records size version maximum).0 ≡ 0) where
  pub fresh-seen : view_machine (fresh slots flags area records size version maximum).1 ≡ (blank size, fresh_numbers version maximum)
  fresh-seen =
      let fit = (fresh-told slots flags area records size version maximum done).1 in
      let e = rw (memory-formed.fresh-done slots flags area size fit) at (memory-laws.fresh-seen slots flags area size fit) in
      rw (fresh-done slots flags area records size version maximum done)
      (λ i. (
        record {
          memory = e i;
          entry = fun_ext (λ p. untracked (get_or (filled (length flags) 0) p 0) (length records) p) i;
        },
        fresh_numbers version maximum,
      ))

-- whatever was in the storage lent for it
pub fresh_alike : (slots flags area records slots₂ flags₂ area₂ records₂ : List ℕ) (size version maximum : ℕ)
    → (fresh slots flags area records size version maximum).0 ≡ 0
    → (fresh slots₂ flags₂ area₂ records₂ size version maximum).0 ≡ 0
    → view_machine (fresh slots flags area records size version maximum).1
    ≡ view_machine (fresh slots₂ flags₂ area₂ records₂ size version maximum).1
fresh_alike slots flags area records slots₂ flags₂ area₂ records₂ size version maximum d e =
    fresh-seen slots flags area records size version maximum d
    ∙ sym (fresh-seen slots₂ flags₂ area₂ records₂ size version maximum e)
