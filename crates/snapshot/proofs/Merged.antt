-- "merging neighbours": how many runs there can be, examples, and the same runs from the left, as snapshot2.rs makes them.
use mathlib.Core.Path.{◌≡◌, refl, sym, ap, ◌∙◌}
use mathlib.Core.Bool.{Bool, true, false, cond}
use mathlib.Core.List.{List, [], ◌∷◌, ◌++◌, append_assoc}
use mathlib.Core.Logic.{◌≢◌}
use Prim.Native.Nat.{ℕ, zero, suc, ◌+◌, ◌≤◌, ◌<◌}
use native.Mathlib.Omega.{arith}
use native.Mathlib.Decide.{ℕ_discrete}
use lib.Bits.{bit_and}
use lib.Dec.{eqb}
use lib.ListN.{length, length-map}
use borrow.Author.Tests.{ne_eqb}
use Rattle.program.specs.Program.{along}
use Rattle.memory.specs.Pages.{dirty}
use Rattle.memory.proofs.StoreCases.{cases}
use Rattle.recordfile.specs.Snapshots.{SourceRun, source_run, records_of}
use Rattle.recordfile.proofs.SnapshotRecords.{length-records_of}
use Rattle.machine.specs.declared.Machine.{Machine}
use Rattle.tracking.specs.declared.records.Tracking.{Tracking}
use Rattle.tracking.specs.declared.records.Tracking.TheVariants.{Untracked, Tracked}
use Rattle.tracking.specs.Records.{record_of}
use Rattle.tracking.specs.Operations.{masked, entry_in}
use Rattle.snapshot.specs.Runs.{Run, a_run, neighbours, join_dirty, dirty_runs, join_source, page_run, source_runs, continues, flag_at, dirty_from, sources_from}
use Rattle.snapshot.specs.Answers.{read_out, dirty_out, snapshot_now}
use Rattle.snapshot.specs.Walk.{joined, meets, both, both_sources}
use Rattle.snapshot.proofs.Joining.{Apart, joined-apart, Merging, joined-both}
use Rattle.snapshot.proofs.DirtyPages.{merging, join_is, dirty_past, dirty_clean, dirty_joins}
use Rattle.snapshot.proofs.SourcePages as source
use Rattle.snapshot.proofs.SourcePages.{sources_past, sources_untracked, sources_joins}

-- ---- how many

length-joined : {R : Type 0} (meets : R → R → Bool) (both : R → R → R) (r : R) (l : List R)
    → length (joined meets both r l) ≤ length l + 1
unfolding joined
length-joined meets both r [] = omega arith
length-joined {R} meets both r (s ∷ ss) =
    cases (λ (l : List R). length l ≤ length (s ∷ ss) + 1) (meets r s) (both r s ∷ ss) (r ∷ s ∷ ss) (λ e. omega arith) (λ e. omega arith)

module _ (flags records : List ℕ) where
  module _ (p : ℕ) (h : p < length flags) where
    -- "The record of a dirty page is no part of any call's answer."
    shows_nothing : bit_and (flag_at flags p) dirty ≢ 0 → entry_in flags records p ≡ Untracked
    unfolding masked
    shows_nothing d = rw (ne_eqb _ _ d)

    source_once : (t : Tracking) → entry_in flags records p ≡ t
        → length (sources_from flags records p) ≤ length (sources_from flags records (p + 1)) + 1
    source_once Untracked q = rw (sources_untracked flags records p h q) (omega arith)
    source_once (Tracked id offset flag) q =
        rw (sources_joins flags records p h id offset flag q, source.join_is (page_run p flag id offset) _)
        (length-joined continues both_sources (page_run p flag id offset) (sources_from flags records (p + 1)))

    -- a page is in at most one run
    page_once : Dec (bit_and (flag_at flags p) dirty ≡ 0)
        → length (sources_from flags records p) + length (dirty_from flags p)
        ≤ length (sources_from flags records (p + 1)) + length (dirty_from flags (p + 1)) + 1
    page_once (yes z) = rw (dirty_clean flags p h z) (omega (arith, source_once (entry_in flags records p) refl))
    page_once (no d) =
        rw (sources_untracked flags records p h (shows_nothing d), dirty_joins flags p h d, join_is p (flag_at flags p) _)
        (omega (arith, length-joined meets both (a_run p (flag_at flags p) 1) (dirty_from flags (p + 1))))

  pages_bound : (n p : ℕ) → p + n ≡ length flags → length (sources_from flags records p) + length (dirty_from flags p) ≤ n
  pages_bound zero p e = rw (sources_past flags records p (omega arith), dirty_past flags p (omega arith)) (omega arith)
  pages_bound (suc n) p e =
      omega (arith, pages_bound n (p + 1) (omega arith), page_once p (omega arith) (ℕ_discrete (bit_and (flag_at flags p) dirty) 0))

  pub runs_bound : length (sources_from flags records 0) + length (dirty_from flags 0) ≤ length flags
  runs_bound = pages_bound (length flags) 0 (omega arith)

  -- "There are at most 9 + pages records."
  pub records_bound : (slots area : List ℕ) (m : Machine)
      → length (records_of (snapshot_now slots flags area records m)) ≤ 9 + length flags
  unfolding dirty_out
  records_bound slots area m =
      let a = runs_bound in
      let b : length (dirty_out slots flags area) ≡ length (dirty_from flags 0) = length-map (dirty_from flags 0) (read_out slots area) in
      rw (length-records_of (snapshot_now slots flags area records m)) (omega arith)

-- ---- examples

-- of the flags 4 4 6 0 6: neighbours of equal flag, another flag, and the same flag after a gap
pub dirty_example : dirty_from (4 ∷ 4 ∷ 6 ∷ 0 ∷ 6 ∷ []) 0 ≡ a_run 0 4 2 ∷ a_run 2 6 1 ∷ a_run 4 6 1 ∷ []
unfolding dirty_from along dirty_runs join_dirty neighbours
dirty_example = refl

-- two pages of item 7, flag 2: offsets that continue
pub source-continues : source_runs 3 (Tracked 7 100 2 ∷ Tracked 7 4196 2 ∷ []) ≡ source_run 12288 2 7 100 8192 ∷ []
unfolding source_runs join_source continues
source-continues = refl

-- an offset that doesn't continue, another item, another recorded flag, an untracked page between them
pub source-offset : source_runs 3 (Tracked 7 100 2 ∷ Tracked 7 4197 2 ∷ [])
    ≡ source_run 12288 2 7 100 4096 ∷ source_run 16384 2 7 4197 4096 ∷ []
unfolding source_runs join_source continues
source-offset = refl

pub source-item : source_runs 3 (Tracked 7 100 2 ∷ Tracked 8 4196 2 ∷ [])
    ≡ source_run 12288 2 7 100 4096 ∷ source_run 16384 2 8 4196 4096 ∷ []
unfolding source_runs join_source continues
source-item = refl

pub source-flag : source_runs 3 (Tracked 7 100 2 ∷ Tracked 7 4196 0 ∷ [])
    ≡ source_run 12288 2 7 100 4096 ∷ source_run 16384 0 7 4196 4096 ∷ []
unfolding source_runs join_source continues
source-flag = refl

pub source-gap : source_runs 3 (Tracked 7 100 2 ∷ Untracked ∷ Tracked 7 4196 2 ∷ [])
    ≡ source_run 12288 2 7 100 4096 ∷ source_run 20480 2 7 4196 4096 ∷ []
unfolding source_runs join_source continues
source-gap = refl

-- three tracked pages of which the second is dirty: its record is not shown
pub source-dirty : sources_from (2 ∷ 6 ∷ 2 ∷ []) (7 ∷ 0 ∷ 258 ∷ 7 ∷ 4096 ∷ 258 ∷ 7 ∷ 8192 ∷ 258 ∷ []) 0
    ≡ source_run 0 2 7 0 4096 ∷ source_run 8192 2 7 8192 4096 ∷ []
unfolding sources_from along masked record_of source_runs join_source continues
source-dirty = refl

-- ---- from the left

module _ {R : Type 0} (meets : R → R → Bool) (both : R → R → R) where
  -- runs so far, and one more: appended to the last where it meets it, else after it
  unfoldable pub appended : List R → R → List R
  appended [] x = x ∷ []
  appended (r ∷ []) x = cond (meets r x) (both r x ∷ []) (r ∷ x ∷ [])
  appended (r ∷ s ∷ rs) x = r ∷ appended (s ∷ rs) x

  -- snapshot2.rs's make_snapshot: the loop over pages that looks at `last_mut()`, and pushes where it doesn't continue that
  unfoldable pub left_runs : List R → List R → List R
  left_runs rs [] = rs
  left_runs rs (x ∷ xs) = left_runs (appended rs x) xs

  -- the same from the right
  unfoldable pub right_runs : List R → List R
  right_runs [] = []
  right_runs (x ∷ xs) = joined meets both x (right_runs xs)

  appended-last : (rs : List R) (r x : R) → appended (rs ++ r ∷ []) x ≡ rs ++ cond (meets r x) (both r x ∷ []) (r ∷ x ∷ [])
  unfolding appended
  appended-last [] r x = refl
  appended-last (s ∷ []) r x = refl
  appended-last (s ∷ t ∷ rs) r x = ap (λ l. s ∷ l) (appended-last (t ∷ rs) r x)

  module _ (w : Merging meets both) where
    apart-joined : (r x : R) (l : List R) → meets r x ≡ false → Apart meets both r (joined meets both x l)
    unfolding Apart joined
    apart-joined r x [] e = e
    apart-joined r x (s ∷ ss) e = cases (Apart meets both r) (meets x s) _ _ (λ k. w.start r x s k ∙ e) (λ k. e)

    -- one more run after the last
    left-turn : (xs rs : List R) (r x : R) (b : Bool) → meets r x ≡ b
        → left_runs (rs ++ both r x ∷ []) xs ≡ rs ++ joined meets both (both r x) (right_runs xs)
        → left_runs ((rs ++ r ∷ []) ++ x ∷ []) xs ≡ (rs ++ r ∷ []) ++ joined meets both x (right_runs xs)
        → left_runs (rs ++ cond b (both r x ∷ []) (r ∷ x ∷ [])) xs ≡ rs ++ joined meets both r (joined meets both x (right_runs xs))
    left-turn xs rs r x true e i j = i ∙ ap (λ l. rs ++ l) (sym (joined-both meets both w r x (right_runs xs) e))
    left-turn xs rs r x false e i j =
        (simp append_assoc at j)
        ∙ ap (λ l. rs ++ l) (sym (joined-apart meets both r (joined meets both x (right_runs xs)) (apart-joined r x (right_runs xs) e)))

    left-last : (xs rs : List R) (r : R) → left_runs (rs ++ r ∷ []) xs ≡ rs ++ joined meets both r (right_runs xs)
    unfolding left_runs right_runs joined
    left-last [] rs r = refl
    left-last (x ∷ xs) rs r =
        ap (λ l. left_runs l xs) (appended-last rs r x)
        ∙ left-turn xs rs r x (meets r x) refl (left-last xs rs (both r x)) (left-last xs (rs ++ r ∷ []) x)

    pub same_runs : (xs : List R) → left_runs [] xs ≡ right_runs xs
    unfolding left_runs right_runs appended
    same_runs [] = refl
    same_runs (x ∷ xs) = left-last xs [] x

-- the dirty pages from page p on, each a run of its own; and the tracked pages
unfoldable pub dirty_pages : ℕ → List ℕ → List Run
dirty_pages p [] = []
dirty_pages p (f ∷ fs) = cond (eqb (bit_and f dirty) 0) (dirty_pages (p + 1) fs) (a_run p f 1 ∷ dirty_pages (p + 1) fs)

unfoldable pub tracked_pages : ℕ → List Tracking → List SourceRun
tracked_pages p [] = []
tracked_pages p (Untracked ∷ ts) = tracked_pages (p + 1) ts
tracked_pages p (Tracked id offset flag ∷ ts) = page_run p flag id offset ∷ tracked_pages (p + 1) ts

dirty_right : (fs : List ℕ) (p : ℕ) → right_runs meets both (dirty_pages p fs) ≡ dirty_runs p fs
unfolding right_runs dirty_pages dirty_runs
dirty_right [] p = refl
dirty_right (f ∷ fs) p = turn (eqb (bit_and f dirty) 0) (dirty_right fs (p + 1))
  where
    turn : (b : Bool) → right_runs meets both (dirty_pages (p + 1) fs) ≡ dirty_runs (p + 1) fs
        → right_runs meets both (cond b (dirty_pages (p + 1) fs) (a_run p f 1 ∷ dirty_pages (p + 1) fs))
        ≡ cond b (dirty_runs (p + 1) fs) (join_dirty p f (dirty_runs (p + 1) fs))
    turn true i = i
    turn false i = ap (joined meets both (a_run p f 1)) i ∙ sym (join_is p f (dirty_runs (p + 1) fs))

source_right : (ts : List Tracking) (p : ℕ) → right_runs continues both_sources (tracked_pages p ts) ≡ source_runs p ts
unfolding right_runs tracked_pages source_runs
source_right [] p = refl
source_right (Untracked ∷ ts) p = source_right ts (p + 1)
source_right (Tracked id offset flag ∷ ts) p =
    ap (joined continues both_sources (page_run p flag id offset)) (source_right ts (p + 1))
    ∙ sym (source.join_is (page_run p flag id offset) (source_runs (p + 1) ts))

-- the runs are those of snapshot2.rs's two loops
pub dirty_from_left : (fs : List ℕ) (p : ℕ) → left_runs meets both [] (dirty_pages p fs) ≡ dirty_runs p fs
dirty_from_left fs p = same_runs meets both merging (dirty_pages p fs) ∙ dirty_right fs p

pub source_from_left : (ts : List Tracking) (p : ℕ) → left_runs continues both_sources [] (tracked_pages p ts) ≡ source_runs p ts
source_from_left ts p = same_runs continues both_sources source.merging (tracked_pages p ts) ∙ source_right ts p
