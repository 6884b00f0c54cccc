-- Tracking and marking keep a machine sound where the source gives what is tracked.
use mathlib.Core.Path.{◌≡◌, refl, sym, ap, ap₂, ◌∙◌}
use mathlib.Core.List.{List}
use mathlib.Core.Logic.{◌≢◌}
use Prim.Native.Nat.{ℕ, ◌+◌, ◌-◌, ◌*◌, ◌/◌, ◌^◌, ◌≤◌, ◌<◌, min}
use native.Mathlib.Omega.{arith}
use native.Mathlib.Decide.{ℕ_discrete}
use lib.ListN.{length}
use lib.Dec.{ltb, leb}
use borrow.Author.Tests.{ltb-true, ltb-false}
use Rattle.bits.specs.Rounding.{page_size}
use Rattle.program.specs.Program.{run}
use Rattle.program.specs.Layers.{own}
use Rattle.memory.specs.Storage.{span}
use Rattle.memory.proofs.StoreCases.{cases}
use Rattle.memory.proofs.Dirty.{dirty-cleared}
use Rattle.tracking.specs.declared.records.Tracking.TheVariants.{Tracked}
use Rattle.tracking.specs.declared.context.LoadingAction.{LoadingAction}
use Rattle.tracking.specs.Operations.{track!, masked, fitting, top, Call}
use Rattle.tracking.specs.Tracking.{distance, track_from, track_whole, track, track_pages, action_words, action_at, mark_action, mark_actions, mark_program}
use Rattle.handover.specs.View.{View, clean_v, tracked_v, does_v}
use Rattle.handover.specs.Sound.{page_in, source_gives, SoundPage, is_tracked}
use Rattle.handover.specs.Keeping.{SourceGives}
use Rattle.handover.proofs.Seen.{mask_clean}
use Rattle.handover.proofs.Gentle.{Good, page-same}
use Rattle.handover.proofs.Storing.{at-one-same, at-one-other}
use Rattle.handover.proofs.Tracked.{entry-at-same, entry-at-other}
use Rattle.handover.proofs.Steps.{each-kept}

-- ---- one page

module _ (directory sources : List ℕ) where
  -- w is good and has the bytes and the size of v
  pub record Stays (v w : View) : Type 0 where
    pub good : Good directory sources w
    pub byte : w.memory.byte ≡ v.memory.byte
    pub size : w.memory.size ≡ v.memory.size

  pub stays_same : (v : View) → Good directory sources v → Stays v v
  stays_same v g = record { good = g; byte = refl; size = refl }

  module _ (v : View) (p id offset : ℕ) (gives : source_gives directory sources id offset ≡ page_in v p) where
    abbrev after : View
    after = tracked_v v p id offset

    tracked-page : (q : ℕ) → (q ≢ p → SoundPage directory sources v q) → SoundPage directory sources after q
    tracked-page q s = elim (ℕ_discrete q p) [
      | yes e ↦
          let f : after.memory.flag q ≡ clean_v v p = ap after.memory.flag e ∙ at-one-same v.memory.flag p (clean_v v p) p refl in
          let t : after.entry q ≡ Tracked id offset (clean_v v p) =
          ap after.entry e ∙ entry-at-same v.entry p (Tracked id offset (clean_v v p)) p refl in
          is_tracked id offset (rw f (dirty-cleared (v.memory.flag p))) (t ∙ ap (Tracked id offset) (sym f))
          (gives ∙ ap (page_in v) (sym e))
      | no n ↦
          page-same directory sources v after q (at-one-other v.memory.flag p (clean_v v p) q n)
          (entry-at-other v.entry p (Tracked id offset (clean_v v p)) q n) refl (s n)
    ]

    tracked-masked : (q : ℕ) → masked (v.memory.flag q) (v.entry q) ≡ v.entry q → masked (after.memory.flag q) (after.entry q) ≡ after.entry q
    tracked-masked q m = elim (ℕ_discrete q p) [
      | yes e ↦
          mask_clean (after.memory.flag q) (after.entry q)
          (rw (ap after.memory.flag e ∙ at-one-same v.memory.flag p (clean_v v p) p refl) (dirty-cleared (v.memory.flag p)))
      | no n ↦
          ap₂ masked (at-one-other v.memory.flag p (clean_v v p) q n) (entry-at-other v.entry p (Tracked id offset (clean_v v p)) q n)
          ∙ m ∙ sym (entry-at-other v.entry p (Tracked id offset (clean_v v p)) q n)
    ]

    tracked-good : Good directory sources v → Good directory sources after
    tracked-good g =
        record { pages = λ q h. tracked-page q (λ n. g.pages q h); masked = λ q. tracked-masked q (g.masked q) }

  -- ---- track

  -- one page: tracked, or refused and left as it is
  track-page : (v w : View) (p id offset : ℕ)
      → (p < v.memory.size / page_size → source_gives directory sources id offset ≡ page_in v p)
      → Stays v w → Stays v (does_v (own (track! p id offset)) w).1
  track-page v w p id offset gives s =
      cases P (ltb p (w.memory.size / page_size)) _ _
      (λ b. cases P (leb (offset + page_size) top) _ _
      (λ c.
      let h : p < v.memory.size / page_size = rw s.size at (ltb-true p (w.memory.size / page_size) b) in
      record {
        good = tracked-good w p id offset (gives h ∙ ap (λ (f : ℕ → ℕ). span f (p * page_size) page_size) (sym s.byte)) s.good;
        byte = s.byte;
        size = s.size;
      })
      (λ c. s))
      (λ b. s)
    where
      P : ℕ × View → Type 0
      P r = Stays v r.1

  -- on the view the lengths are right
  fitting_stays : (v w : View) (g : Call ℕ) → Stays v (run does_v g w).1 → Stays v (run does_v (fitting (λ n. n) g) w).1
  unfolding fitting run
  fitting_stays v w g s = s

  track-whole : (v : View) (first count id offset : ℕ)
      → ((q : ℕ) → first ≤ q → q < first + count → q < v.memory.size / page_size
      → source_gives directory sources id (offset + (q - first) * page_size) ≡ page_in v q)
      → (w : View) → Stays v w → Stays v (run does_v (track_whole first count id offset) w).1
  unfolding track_whole run
  track-whole v first count id offset gives w s =
      each-kept does_v (λ r. Stays v r.1) (track_from first id offset) count first
      (λ q a b u t. track-page v u q id (offset + (q - first) * page_size) (gives q a b) t) w s

  pub track_stays : (v : View) (start size id offset : ℕ) → SourceGives directory sources v start size id offset
      → (w : View) → Stays v w → Stays v (run does_v (track_pages start size id offset) w).1
  unfolding track_pages track run
  track_stays v start size id offset gives w s =
      fitting_stays v w (track start size id offset)
      (cases P (ltb size d) _ _ (λ a. s)
      (λ a. cases P (ltb (2 ^ 64 - page_size) start) _ _ (λ b. s)
      (λ b. cases P (ltb top (offset + d)) _ _ (λ c. s)
      (λ c. track-whole v first ((size - d) / page_size) id (offset + d) (each-gives (ltb-false size d a)) w s))))
    where
      d : ℕ
      d = distance start

      first : ℕ
      first = (start + d) / page_size

      P : Call ℕ → Type 0
      P g = Stays v (run does_v g w).1

      each-gives : d ≤ size → (q : ℕ) → first ≤ q → q < first + (size - d) / page_size → q < v.memory.size / page_size
          → source_gives directory sources id (offset + d + (q - first) * page_size) ≡ page_in v q
      each-gives h q a b c =
          let e : offset + d + (q - first) * page_size ≡ offset + (q * page_size - start) = omega arith in
          rw e (gives q (omega arith) (omega arith) c)

  pub track-kept : (v : View) (start size id offset : ℕ) → Good directory sources v
      → SourceGives directory sources v start size id offset
      → Good directory sources (run does_v (track_pages start size id offset) v).1
  track-kept v start size id offset g gives = (track_stays v start size id offset gives v (stays_same v g)).good

  -- ---- mark program

  -- what an item gives for one action's pages
  abbrev pub ActionGives : View → ℕ → ℕ → LoadingAction → Type 0
  ActionGives v id offset action =
      SourceGives directory sources v (action.addr + action.lead)
      (min (action.end - action.start) (action.size - action.lead))
      id
      (offset + action.start)

  pub action_stays : (v : View) (id offset : ℕ) (action : LoadingAction) → ActionGives v id offset action
      → (w : View) → Stays v w → Stays v (run does_v (mark_action id offset action) w).1
  unfolding mark_action run
  action_stays v id offset action gives w s =
      cases P (ltb top (action.addr + action.lead)) _ _ (λ a. s)
      (λ a. cases P (ltb action.end action.start) _ _ (λ b. s)
      (λ b. cases P (ltb action.size action.lead) _ _ (λ c. s)
      (λ c. cases P (ltb top (offset + action.start)) _ _ (λ d. s)
      (λ d. track_stays v (action.addr + action.lead) (min (action.end - action.start) (action.size - action.lead)) id
      (offset + action.start) gives w s))))
    where
      P : Call ℕ → Type 0
      P g = Stays v (run does_v g w).1

  pub mark_stays : (v : View) (actions : List ℕ) (id offset : ℕ)
      → ((i : ℕ) → i < length actions / action_words → ActionGives v id offset (action_at actions i))
      → (w : View) → Stays v w → Stays v (run does_v (mark_program actions id offset) w).1
  unfolding mark_program mark_actions
  mark_stays v actions id offset gives w s =
      fitting_stays v w (mark_actions actions id offset)
      (each-kept does_v (λ r. Stays v r.1) (λ i. mark_action id offset (action_at actions i)) (length actions / action_words) 0
      (λ i a b u t. action_stays v id offset (action_at actions i) (gives i (omega arith)) u t) w s)

  pub mark-kept : (v : View) (actions : List ℕ) (id offset : ℕ) → Good directory sources v
      → ((i : ℕ) → i < length actions / action_words → ActionGives v id offset (action_at actions i))
      → Good directory sources (run does_v (mark_program actions id offset) v).1
  mark-kept v actions id offset g gives = (mark_stays v actions id offset gives v (stays_same v g)).good
