-- Calls that store what the sources give, and track it, keep a machine sound: context store and resume.
use mathlib.Core.Path.{◌≡◌, refl, sym, ap, ◌∙◌, subst⁻¹}
use mathlib.Core.Bool.{true}
use mathlib.Core.List.{List}
use Prim.Native.Nat.{ℕ, ◌+◌, ◌-◌, ◌*◌, ◌%◌, ◌≤◌, ◌<◌}
use native.Mathlib.Omega.{arith}
use lib.ListN.{length, get_or, drop}
use lib.Seq.{get_or-take, get_or-drop}
use lib.Dec.{eqb}
use borrow.Author.Tests.{eqb-true}
use Rattle.bits.specs.Rounding.{page_size}
use Rattle.words.specs.Bytes.{part}
use Rattle.words.proofs.Patch.{length_part}
use Rattle.words.specs.LittleEndian.{to_le}
use Rattle.program.specs.Program.{run, and_then, each_in}
use Rattle.program.specs.Layers.{own}
use Rattle.memory.specs.Storage.{span}
use Rattle.memory.specs.Operations as memory-op
use Rattle.memory.specs.Sparse as sparse
use Rattle.memory.specs.WXorX as wxorx
use Rattle.memory.specs.View as memory
use Rattle.memory.proofs.StoreCases.{cases}
use Rattle.memory.proofs.Span.{span-is}
use Rattle.tracking.specs.Sources.{Data, find_data, data_of}
use Rattle.tracking.specs.Operations.{Call, fitting, on_memory, drop_all!, masked}
use Rattle.tracking.specs.declared.records.Tracking.TheVariants.{Untracked}
use Rattle.tracking.specs.Tracking.{Stored, not_stored, track_pages, untrack_pages, store_tracked, replace, store_data, store_found, store_bytes}
use Rattle.recordfile.specs.Snapshots.{SourceRun, DirtyRun, Snapshot}
use Rattle.snapshot.specs.Resume.{store_run, store_source, restore_data, found, restore_source, restore_dirty, restore_runs, restore_pages}
use Rattle.handover.specs.View.{View, does_v}
use Rattle.handover.specs.Keeping.{SourceGives}
use Rattle.handover.proofs.Gentle.{Good, page-same, same_step, gentle_kept, gentle_wxorx, gentle_on_memory, gentle_untrack_pages}
use Rattle.handover.proofs.Steps.{after_cases, then_kept, in_kept}
use Rattle.handover.proofs.SourceData.{data_page, data_length}
use Rattle.handover.proofs.Tracked.{memory_call}
use Rattle.handover.proofs.KeptStores.{Stepped, Ran, store_ran, run_ran, stepped_kept, view-size}
use Rattle.handover.proofs.KeptTracking.{track-kept}

module _ (directory sources : List ℕ) where
  -- ---- what is stored is what the source gives

  module _ (id offset wanted : ℕ) where
    abbrev place : Data
    place = find_data directory (length sources) id offset wanted

    abbrev given : List ℕ
    given = data_of sources place

    -- memory that has the data from a start on
    pub data_gives : (v : View) (start size : ℕ) → place.number ≡ 0 → size ≤ length given
        → ((i : ℕ) → i < size → v.memory.byte (start + i) ≡ get_or given i 0)
        → SourceGives directory sources v start size id offset
    data_gives v start size found fits same p above below inside =
        data_page directory sources id offset wanted k found (omega (arith, data_length directory sources id offset wanted))
        ∙ span-is v.memory.byte l (p * page_size) bytes ∙ ap (span v.memory.byte (p * page_size)) long
      where
        k : ℕ
        k = p * page_size - start

        l : List ℕ
        l = part given k page_size

        long : length l ≡ page_size
        long = length_part given k page_size (omega arith)

        bytes : (i : ℕ) → i < length l → get_or l i 0 ≡ v.memory.byte (p * page_size + i)
        bytes i h =
            let e : start + (k + i) ≡ p * page_size + i = omega arith in
            get_or-take page_size (drop k given) i 0 (omega (arith, long)) ∙ get_or-drop k given i 0
            ∙ sym (same (k + i) (omega (arith, long))) ∙ ap v.memory.byte e

    -- it is stored from a on, then tracked
    pub stored-tracked : (v : View) (a : ℕ) (g : memory-op.Call ℕ) → place.number ≡ 0
        → Ran v.memory a given (run memory.does_v g v.memory) → Good directory sources v
        → Good directory sources (run does_v (and_then (on_memory g) (track_pages a (length given) id offset)) v).1
    stored-tracked v a g found ran w =
        after_cases does_v (λ r. Good directory sources r.1) (λ n. n) (on_memory g) (track_pages a (length given) id offset) v
        (λ z.
        track-kept directory sources t a (length given) id offset good
        (data_gives t a (length given) found (omega arith) (bytes z)))
        (λ n. good)
      where
        t : View
        t = (run does_v (on_memory g) v).1

        good : Good directory sources t
        good = stepped_kept directory sources g v w ran.stepped

        bytes : (run does_v (on_memory g) v).0 ≡ 0 → (i : ℕ) → i < length given → t.memory.byte (a + i) ≡ get_or given i 0
        bytes =
            subst⁻¹ (λ (r : ℕ × View). r.0 ≡ 0 → (i : ℕ) → i < length given → r.1.memory.byte (a + i) ≡ get_or given i 0)
            (memory_call g v w.masked) ran.byte

  -- ---- resume

  -- good, and of whole pages
  pub record GoodWhole (v : View) : Type 0 where
    pub good : Good directory sources v
    pub whole : v.memory.size % page_size ≡ 0

  -- what keeps pages sound keeps both
  still_whole : (g : Call ℕ) (v : View) → GoodWhole v → Good directory sources (run does_v g v).1 → GoodWhole (run does_v g v).1
  still_whole g v w h = record { good = h; whole = rw (view-size g v) w.whole }

  abbrev Fine : ℕ × View → Type 0
  Fine r = GoodWhole r.1

  source-kept : (r : SourceRun) (v : View) → GoodWhole v → Good directory sources (run does_v (restore_source directory sources r) v).1
  unfolding run restore_source restore_data store_source
  source-kept r v w =
      cases P (eqb (r.address % page_size) 0) _ _
      (λ a.
      cases P (eqb (found directory sources r).number 0) _ _
      (λ b.
      cases P (eqb (length (given r.id r.offset r.size) % page_size) 0) _ _
      (λ c.
      stored-tracked r.id r.offset r.size v r.address (store_run r.address r.flag (given r.id r.offset r.size))
      (eqb-true _ _ b)
      (run_ran v.memory r.address r.flag (given r.id r.offset r.size) w.whole (eqb-true _ _ a))
      w.good)
      (λ c. w.good))
      (λ b. w.good))
      (λ a. w.good)
    where
      P : Call ℕ → Type 0
      P g = Good directory sources (run does_v g v).1

  dirty-kept : (r : DirtyRun) (v : View) → GoodWhole v → Good directory sources (run does_v (on_memory (restore_dirty r)) v).1
  unfolding run restore_dirty
  dirty-kept r v w =
      stepped_kept directory sources (restore_dirty r) v w.good
      (cases (λ (g : memory-op.Call ℕ). Stepped v.memory (run memory.does_v g v.memory).1) (eqb (r.address % page_size) 0) _ _
      (λ a. (run_ran v.memory r.address r.flag r.content w.whole (eqb-true _ _ a)).stepped)
      (λ a. same_step v.memory))

  pub restored : (v : View) (s : Snapshot) → Good directory sources v → v.memory.size % page_size ≡ 0
      → Good directory sources (run does_v (restore_pages directory sources s) v).1
  unfolding restore_pages restore_runs sparse.set_lr
  restored v s g whole =
      (then_kept does_v Fine _ (on_memory (sparse.set_lr s.state.reservation)) v
      (then_kept does_v Fine (each_in (restore_source directory sources) s.sources) (each_in (λ r. on_memory (restore_dirty r)) s.dirty) v
      (in_kept does_v Fine (restore_source directory sources) (λ r t w. still_whole (restore_source directory sources r) t w (source-kept r t w))
      s.sources v (record { good = g; whole = whole }))
      (λ t w.
      in_kept does_v Fine (λ r. on_memory (restore_dirty r)) (λ r t w. still_whole (on_memory (restore_dirty r)) t w (dirty-kept r t w))
      s.dirty t w))
      (λ t w.
      still_whole (on_memory (sparse.set_lr s.state.reservation)) t w
      (gentle_kept directory sources (on_memory (sparse.set_lr s.state.reservation))
      (gentle_on_memory (sparse.set_lr s.state.reservation) (tt, λ n. tt)) t w.good))
      ).good

  -- where no clean page is tracked, nothing is lost by dropping all tracking
  pub resume-kept : (v : View) (s : Snapshot) → Good directory sources v → ((p : ℕ) → v.entry p ≡ Untracked)
      → v.memory.size % page_size ≡ 0
      → Good directory sources (run does_v (restore_pages directory sources s) (does_v (own drop_all!) v).1).1
  resume-kept v s g none whole =
      restored (does_v (own drop_all!) v).1 s
      (record {
        pages = λ p h.
            page-same directory sources v (does_v (own drop_all!) v).1 p refl (sym (none p)) refl (g.pages p h);
        masked = λ p. ap (masked (v.memory.flag p)) (sym (none p)) ∙ g.masked p ∙ none p;
      })
      whole

  -- ---- context store

  replaced : (a id offset wanted : ℕ) (v : View) → (find_data directory (length sources) id offset wanted).number ≡ 0 → GoodWhole v
      → Good directory sources (run does_v (replace a id offset (given id offset wanted)) v).1
  unfolding replace store_tracked
  replaced a id offset wanted v found w =
      (then_kept does_v Fine (untrack_pages a (length bytes)) (store_tracked a id offset bytes) v
      (still_whole (untrack_pages a (length bytes)) v w
      (gentle_kept directory sources (untrack_pages a (length bytes)) (gentle_untrack_pages a (length bytes)) v w.good))
      (λ t u.
      still_whole (store_tracked a id offset bytes) t u
      (stored-tracked id offset wanted t a (wxorx.store_bytes a bytes) found (store_ran t.memory a bytes u.whole) u.good))
      ).good
    where
      bytes : List ℕ
      bytes = given id offset wanted

  data_kept : (size_at a id offset wanted : ℕ) (v : View) → (find_data directory (length sources) id offset wanted).number ≡ 0
      → GoodWhole v → (full : ℕ) → Good directory sources (run does_v (store_data size_at full a id offset (given id offset wanted)) v).1
  unfolding store_data wxorx.store_wide
  data_kept size_at a id offset wanted v found w full =
      (then_kept does_v Fine (on_memory (wxorx.store_bytes size_at (to_le 8 full))) (replace a id offset (given id offset wanted)) v
      (still_whole (on_memory (wxorx.store_bytes size_at (to_le 8 full))) v w
      (gentle_kept directory sources _ (gentle_on_memory (wxorx.store_bytes size_at (to_le 8 full)) (gentle_wxorx size_at (to_le 8 full))) v
      w.good))
      (λ t u. still_whole (replace a id offset (given id offset wanted)) t u (replaced a id offset wanted t found u))
      ).good

  pub context-kept : (v : View) (a id offset wanted size_at : ℕ) → Good directory sources v → v.memory.size % page_size ≡ 0
      → Good directory sources (run does_v (store_bytes directory sources a id offset wanted size_at) v).1
  unfolding run store_bytes fitting store_found
  context-kept v a id offset wanted size_at g whole =
      cases P (eqb (find_data directory (length sources) id offset wanted).number 0) _ _
      (λ e.
      after_cases does_v (λ r. Good directory sources r.1) not_stored
      (store_data size_at (find_data directory (length sources) id offset wanted).full a id offset (given id offset wanted)) _ v
      (λ z. stored e)
      (λ n. stored e))
      (λ e. g)
    where
      P : Call Stored → Type 0
      P h = Good directory sources (run does_v h v).1

      stored : eqb (find_data directory (length sources) id offset wanted).number 0 ≡ true
          → Good directory sources
          (run does_v
          (store_data size_at (find_data directory (length sources) id offset wanted).full a id offset (given id offset wanted))
          v).1
      stored e =
          data_kept size_at a id offset wanted v (eqb-true _ _ e) (record { good = g; whole = whole })
          (find_data directory (length sources) id offset wanted).full
