-- Pages untracked: one page, a turn of the loop over pages, and each way in which a call ends.
use Rattle.std.proofs.Common.{◌≡◌, ℕ, ◌+◌, ◌-◌, ◌<◌, ◌≤◌, Bool, true, false, cond, eqb, List, length, get_or, set, refl, ap, ◌∙◌, arith, le-ltb, lt-ltb, eq-eqb, ne_eqb}
use lib.Bits.{bit_or}
use Rattle.program.specs.Program.{ret, run, perform, onwards}
use Rattle.program.specs.Layers.{own}
use Rattle.memory.specs.declared.Memory.{Memory}
use Rattle.memory.specs.Pages.{PageIndices, dirty, page_indices}
use Rattle.machine.specs.Fresh.{Tracked}
use Rattle.tracking.specs.declared.records.Tracking.TheVariants.{Untracked}
use Rattle.tracking.specs.Records.{with_record}
use Rattle.tracking.specs.Operations.{Call, does, drop!, drop_page, fits_tracked}
use Rattle.tracking.specs.Tracking.{drop_whole, untrack, untrack_pages}
use Rattle.tracking.specs.Answers.{tracked_of}
use Rattle.tracking.proofs.Lengths.{fit-yes}
use Rattle.tracking.proofs.InTurn.{Left, left_none, left-stop, left-turn}

-- ---- one page

module _ (slots flags area records : List ℕ) (m : Memory) (p : ℕ) where
  abbrev here : Tracked
  here = tracked_of slots flags area records m

  pub drop_past : length flags ≤ p → (2, here) ≡ run does (perform (own (drop! p))) here
  unfolding run drop_page
  drop_past h = simp (le-ltb p (length flags) h)

  pub drop-there : (new : List ℕ) → p < length flags → new ≡ with_record records p Untracked
      → (0, tracked_of slots (set flags p (bit_or (get_or flags p 0) dirty)) area new m) ≡ run does (perform (own (drop! p))) here
  unfolding run drop_page
  drop-there new h e = rw e (simp (lt-ltb p (length flags) h))

-- ---- the loop

-- the pages from `page` to last
abbrev pub Dropping : Tracked → ℕ → ℕ → Tracked → ℕ → Type 0
Dropping s₀ first last s page = Left (λ p. perform (own (drop! p))) s₀ (last + 1 - first) first s (last + 1 - page) page

module _ (s₀ : Tracked) (first last : ℕ) (s : Tracked) (page : ℕ) (w : Dropping s₀ first last s page) where
  pub dropped-all : last + 1 ≤ page → (0, s) ≡ run does (drop_whole first last) s₀
  unfolding drop_whole
  dropped-all h = left_none _ _ _ _ _ _ _ w (omega arith)

  module _ (h : page < last + 1) (n : ℕ) (t : Tracked) (q : (n, t) ≡ run does (perform (own (drop! page))) s) where
    pub dropping_stop : false ≡ eqb n 0 → (n, t) ≡ run does (drop_whole first last) s₀
    unfolding drop_whole
    dropping_stop b = left-stop _ _ _ _ _ _ _ w (last + 1 - (page + 1)) (omega arith) t n q b

    pub dropping_next : n ≡ 0 → Dropping s₀ first last t (page + 1)
    dropping_next e = left-turn _ _ _ _ _ _ _ w (last + 1 - (page + 1)) (omega arith) t (rw e at q)

-- ---- the call

-- what follows the page indices
abbrev drop_on : PageIndices → Call ℕ
drop_on x = onwards (λ n. n) (drop_whole x.first x.last) x.number

module _ (s : Tracked) (start size : ℕ) (b : Bool) (e : b ≡ fits_tracked s) (t : b ≡ true) where
  on : (x : Bool) (r : ℕ × Tracked) → eqb size 0 ≡ x → r ≡ run does (cond x (ret 0) (drop_on (page_indices start size))) s
      → r ≡ run does (untrack_pages start size) s
  unfolding untrack untrack_pages
  on x r i w = fit-yes (λ n. n) s _ b e r t (rw i w)

  pub untrack_none : size ≡ 0 → (0, s) ≡ run does (untrack_pages start size) s
  unfolding run
  untrack_none h = on true _ (eq-eqb _ _ h) refl

  module _ (h : size ≡ 0 → ⊥) (x : PageIndices) (q : x ≡ page_indices start size) where
    decided : (b : Bool) (r : ℕ × Tracked) → b ≡ eqb x.number 0 → r ≡ run does (cond b (drop_whole x.first x.last) (ret x.number)) s
        → r ≡ run does (untrack_pages start size) s
    decided b r i w =
        on false r (ne_eqb _ _ h)
        (w ∙ ap (λ (b : Bool). run does (cond b (drop_whole x.first x.last) (ret x.number)) s) i
        ∙ ap (λ (x : PageIndices). run does (drop_on x) s) q)

    pub untrack-all : (r : ℕ × Tracked) → x.number ≡ 0 → r ≡ run does (drop_whole x.first x.last) s → r ≡ run does (untrack_pages start size) s
    untrack-all r z w = decided true r (rw z) w

    pub untrack-refused : false ≡ eqb x.number 0 → (x.number, s) ≡ run does (untrack_pages start size) s
    unfolding run
    untrack-refused i = decided false _ i refl
