-- Pages tracked: one page, a turn of the loop over whole pages, and each way in which a call ends.
use Rattle.std.proofs.Common.{◌≡◌, ℕ, ◌+◌, ◌-◌, ◌*◌, ◌/◌, ◌^◌, ◌<◌, ◌≤◌, Bool, true, false, cond, eqb, ltb, leb, List, length, set, refl, ap, ◌∙◌, arith, ltb-true, le-ltb, lt-ltb, le-leb, leb-true}
use borrow.Author.Tests.{lt-leb}
use Rattle.bits.specs.Rounding.{page_size}
use Rattle.program.specs.Program.{ret, run, perform}
use Rattle.program.specs.Layers.{own}
use Rattle.memory.specs.declared.Memory.{Memory}
use Rattle.machine.specs.Fresh.{Tracked}
use Rattle.tracking.specs.declared.records.Tracking.TheVariants as tracking
use Rattle.tracking.specs.Records.{with_record}
use Rattle.tracking.specs.Operations.{Call, does, track!, track_page, clean, top, fits_tracked}
use Rattle.tracking.specs.Tracking.{distance, track_from, track_whole, track, track_pages}
use Rattle.tracking.specs.Answers.{tracked_of}
use Rattle.tracking.proofs.Lengths.{fit-yes}
use Rattle.tracking.proofs.InTurn.{Left, left_none, left-stop, left-turn}

-- ---- one page

-- the last page's address: past it no page begins, and from that offset on a page ends past 2^64-1
abbrev last_page : ℕ
last_page = 2 ^ 64 - page_size

module _ (slots flags area records : List ℕ) (m : Memory) (p id offset : ℕ) where
  abbrev here : Tracked
  here = tracked_of slots flags area records m

  pub track-past : length flags ≤ p → (2, here) ≡ run does (perform (own (track! p id offset))) here
  unfolding run track_page
  track-past h = simp (le-ltb p (length flags) h)

  module _ (h : p < length flags) where
    pub track_far : last_page ≤ offset → (2, here) ≡ run does (perform (own (track! p id offset))) here
    unfolding run track_page
    track_far f = simp (lt-ltb p (length flags) h, lt-leb (offset + page_size) top (omega arith))

    pub track-there : (new : List ℕ) → offset < last_page → new ≡ with_record records p (tracking.Tracked id offset (clean flags p))
        → (0, tracked_of slots (set flags p (clean flags p)) area new m) ≡ run does (perform (own (track! p id offset))) here
    unfolding run track_page
    track-there new f e = rw e (simp (lt-ltb p (length flags) h, le-leb (offset + page_size) top (omega arith)))

-- a page that was tracked is on the machine, and its offset isn't too far
module _ (m t : Tracked) (p id offset : ℕ) (q : (0, t) ≡ run does (perform (own (track! p id offset))) m) where
  replied : ◌≡◌ {A = ℕ} 0 (track_page m p id offset).0
  unfolding run
  replied = ap (λ (x : ℕ × Tracked). x.0) q

  told : (p < length m.0.flags) × (offset + page_size ≤ top)
  unfolding track_page
  told = outer (ltb p (length m.0.flags)) _ refl replied
    where
      inner : (b : Bool) (x : Tracked) → leb (offset + page_size) top ≡ b → ◌≡◌ {A = ℕ} 0 (cond {A = ℕ × Tracked} b (0, x) (2, m)).0
          → offset + page_size ≤ top
      inner true x e z = leb-true _ _ e
      inner false x e z = absurd (omega arith)

      outer : (b : Bool) (x : Tracked) → ltb p (length m.0.flags) ≡ b
          → ◌≡◌ {A = ℕ} 0 (cond {A = ℕ × Tracked} b (cond (leb (offset + page_size) top) (0, x) (2, m)) (2, m)).0
          → (p < length m.0.flags) × (offset + page_size ≤ top)
      outer true x e z = (ltb-true _ _ e, inner (leb (offset + page_size) top) x refl z)
      outer false x e z = absurd (omega arith)

  pub tracked-offset : offset + page_size < 2 ^ 64
  tracked-offset = omega (arith, told.1)

-- ---- the loop

-- the pages that are left come to what all come to
abbrev pub Going : Tracked → ℕ → ℕ → ℕ → ℕ → Tracked → ℕ → Type 0
Going s₀ first count id offset s page = Left (track_from first id offset) s₀ count first s (first + count - page) page

pub place-next : (first page at offset : ℕ) → first ≤ page → at ≡ offset + (page - first) * page_size
    → at + page_size ≡ offset + (page + 1 - first) * page_size
place-next first page at offset h z = omega arith

module _ (s₀ : Tracked) (first count id offset : ℕ) (s : Tracked) (page at : ℕ) (w : Going s₀ first count id offset s page) where
  pub tracked-all : first + count ≤ page → (0, s) ≡ run does (track_whole first count id offset) s₀
  unfolding track_whole
  tracked-all h = left_none _ _ _ _ _ _ _ w (omega arith)

  module _ (h : page < first + count) (z : at ≡ offset + (page - first) * page_size) (n : ℕ) (t : Tracked)
      (q : (n, t) ≡ run does (perform (own (track! page id at))) s) where
    placed : (n, t) ≡ run does (track_from first id offset page) s
    placed = q ∙ ap (λ (a : ℕ). run does (perform (own (track! page id a))) s) z

    pub tracking-stop : false ≡ eqb n 0 → (n, t) ≡ run does (track_whole first count id offset) s₀
    unfolding track_whole
    tracking-stop b = left-stop _ _ _ _ _ _ _ w (first + count - (page + 1)) (omega arith) t n placed b

    pub tracking-next : n ≡ 0 → Going s₀ first count id offset t (page + 1)
    tracking-next e = left-turn _ _ _ _ _ _ _ w (first + count - (page + 1)) (omega arith) t (rw e at placed)

-- ---- the call

-- the pages that are tracked, where the boundary is so far off
abbrev whole_from : ℕ → ℕ → ℕ → ℕ → ℕ → Call ℕ
whole_from start size id offset d = track_whole ((start + d) / page_size) ((size - d) / page_size) id (offset + d)

module _ (s : Tracked) (start size id offset : ℕ) (b : Bool) (e : b ≡ fits_tracked s) (t : b ≡ true) (d : ℕ) (q : d ≡ distance start) where
  -- the three tests
  on : (x y z : Bool) (r : ℕ × Tracked) → ltb size d ≡ x → ltb last_page start ≡ y → ltb top (offset + d) ≡ z
      → r ≡ run does (cond x (ret 0) (cond y (ret 2) (cond z (ret 2) (whole_from start size id offset d)))) s
      → r ≡ run does (track_pages start size id offset) s
  unfolding track track_pages
  on x y z r i j k w = fit-yes (λ n. n) s _ b e r t (rw (← q, i, j, k) w)

  pub track-short : size < d → (0, s) ≡ run does (track_pages start size id offset) s
  unfolding run
  track-short h = on true _ _ _ (lt-ltb _ _ h) refl refl refl

  module _ (h : d ≤ size) where
    pub track_high : last_page < start → (2, s) ≡ run does (track_pages start size id offset) s
    unfolding run
    track_high i = on false true _ _ (le-ltb _ _ h) (lt-ltb _ _ i) refl refl

    module _ (i : start ≤ last_page) where
      pub track_late : top < offset + d → (2, s) ≡ run does (track_pages start size id offset) s
      unfolding run
      track_late k = on false false true _ (le-ltb _ _ h) (le-ltb _ _ i) (lt-ltb top (offset + d) k) refl

      pub track-all : (r : ℕ × Tracked) (from : ℕ) → from ≡ offset + d → from ≤ top
          → r ≡ run does (track_whole ((start + d) / page_size) ((size - d) / page_size) id from) s
          → r ≡ run does (track_pages start size id offset) s
      track-all r from f k w =
          on false false false r (le-ltb _ _ h) (le-ltb _ _ i) (le-ltb top (offset + d) (omega arith))
          (w ∙ ap (λ (o : ℕ). run does (track_whole ((start + d) / page_size) ((size - d) / page_size) id o) s) f)
