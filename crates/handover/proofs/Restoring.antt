-- A snapshot's runs, restored in turn on a blank memory, give back what was seen of the machine.
use mathlib.Core.Path.{◌≡◌, refl, sym, ap, ◌∙◌, fun_ext}
use mathlib.Core.Bool.{true}
use mathlib.Core.List.{List, [], ◌∷◌, map}
use mathlib.Core.Logic.{◌≢◌, ◌⊎◌, inl, inr}
use Prim.Native.Nat.{ℕ, ◌+◌, ◌-◌, ◌*◌, ◌/◌, ◌%◌, ◌≤◌, ◌<◌}
use native.Mathlib.Decide.{ℕ_discrete, dec_lt}
use native.Mathlib.Omega.{arith}
use lib.Bits.{bit_and}
use lib.ListN.{get_or}
use borrow.Author.Tests.{eq-eqb}
use Rattle.bits.specs.Rounding.{page_size}
use Rattle.words.proofs.Filled.{filled_zero}
use Rattle.program.specs.Program.{run, along, each_in}
use Rattle.program.proofs.Lists.{each_in_none, each_in_turn}
use Rattle.memory.specs.Pages.{dirty}
use Rattle.memory.specs.Sparse as sparse
use Rattle.recordfile.specs.Snapshots.{SourceRun, DirtyRun, Snapshot}
use Rattle.tracking.specs.declared.records.Tracking.{Tracking}
use Rattle.tracking.specs.declared.records.Tracking.TheVariants.{Untracked, Tracked}
use Rattle.tracking.specs.Operations.{on_memory}
use Rattle.snapshot.specs.Runs.{Run, source_runs, dirty_runs}
use Rattle.snapshot.specs.Resume.{restore_source, restore_dirty, restore_runs, restore_pages}
use Rattle.handover.specs.View.{View, does_v}
use Rattle.handover.specs.Sound.{SoundPage, is_dirty, is_tracked, is_blank}
use Rattle.handover.proofs.Seen.{mask_clean, blank}
use Rattle.handover.proofs.Effects.{Masked}
use Rattle.handover.proofs.Storing.{done_then}
use Rattle.handover.proofs.Tracked.{memory_call}
use Rattle.snapshot.proofs.RunPages.{SourcesLaid, DirtyLaid, sources-laid, dirty-laid}
use Rattle.handover.proofs.RestoredRun.{get_d_span, Same, same, same_then, zone, Restores, page_count, tracked_not, dirty-untracked, dirty-restored, source-restored}
pub use Rattle.handover.proofs.RestoredRun.{Right, read_seen}

-- ---- runs in turn

-- before page p, all but the rest are as in t; the rest, and all from p on, are as in b
record Through (Rest : ℕ → Type 0) (t b : View) (p : ℕ) (v : View) : Type 0 where
  size : v.memory.size ≡ t.memory.size
  dark : Masked v
  made : (q : ℕ) → q < p → (Rest q → ⊥) → Same t v q
  rest : (q : ℕ) → Rest q → Same b v q
  ahead : (q : ℕ) → p ≤ q → Same b v q

-- all but the rest are as in t
record Made (Rest : ℕ → Type 0) (t b : View) (r : ℕ × View) : Type 0 where
  done : r.0 ≡ 0
  size : r.1.memory.size ≡ t.memory.size
  dark : Masked r.1
  made : (q : ℕ) → (Rest q → ⊥) → Same t r.1 q
  rest : (q : ℕ) → Rest q → Same b r.1 q

module _ (Rest : ℕ → Type 0) (t b : View) where
  through_none : b.memory.size ≡ t.memory.size → Masked b → Through Rest t b 0 b
  through_none e m =
      record { size = e; dark = m; made = λ q h. absurd (omega arith); rest = λ q h. same b q; ahead = λ q h. same b q }

  module _ (p : ℕ) (v : View) (h : Through Rest t b p v) where
    -- a run, with none but the rest before it and none of the rest in it
    through_more : (first n : ℕ) (r : ℕ × View) → p ≤ first → ((q : ℕ) → p ≤ q → q < first → Rest q)
        → ((q : ℕ) → first ≤ q → q < first + n → Rest q → ⊥) → Restores t v first n r → Through Rest t b (first + n) r.1
    through_more first n r a before inside e =
        record {
          size = e.size ∙ h.size;
          dark = e.dark;
          made = λ q l x. made q l x (zone first n q);
          rest = λ q x. rest q x (zone first n q);
          ahead = λ q l. same_then b v r.1 q (h.ahead q (omega arith)) (e.outside q (inr l));
        }
      where
        made : (q : ℕ) → q < first + n → (Rest q → ⊥) → ((first ≤ q) × (q < first + n)) ⊎ ((q < first) ⊎ (first + n ≤ q))
            → Same t r.1 q
        made q l x (inl i) = e.inside q i.0 i.1
        made q l x (inr (inl k)) = elim (dec_lt q p) [
          | yes m ↦ same_then t v r.1 q (h.made q m x) (e.outside q (inl k))
          | no m ↦ absurd (x (before q (omega arith) k))
        ]
        made q l x (inr (inr k)) = absurd (omega arith)

        rest : (q : ℕ) → Rest q → ((first ≤ q) × (q < first + n)) ⊎ ((q < first) ⊎ (first + n ≤ q)) → Same b r.1 q
        rest q x (inl i) = absurd (inside q i.0 i.1 x)
        rest q x (inr o) = same_then b v r.1 q (h.rest q x) (e.outside q o)

    -- none but the rest is left
    through_all : ((q : ℕ) → p ≤ q → Rest q) → Made Rest t b (0, v)
    through_all left =
        record {
          done = refl;
          size = h.size;
          dark = h.dark;
          made = λ q x. elim (dec_lt q p) [ yes l ↦ h.made q l x | no l ↦ absurd (x (left q (omega arith))) ];
          rest = h.rest;
        }

module _ (directory sources : List ℕ) (t : View) (right : Right directory sources t) where
  -- ---- the runs of a snapshot

  abbrev IsUntracked : ℕ → Type 0
  IsUntracked q = t.entry q ≡ Untracked

  abbrev IsClean : ℕ → Type 0
  IsClean q = bit_and (t.memory.flag q) dirty ≡ 0

  -- no source run is past the machine, and no dirty one
  untracked-past : (p : ℕ) → ((q : ℕ) → p ≤ q → q < page_count t → IsUntracked q) → (q : ℕ) → p ≤ q → IsUntracked q
  untracked-past p h q k = elim (dec_lt q (page_count t)) [ yes l ↦ h q k l | no l ↦ right.past_entries q (omega arith) ]

  clean-past : (p : ℕ) → ((q : ℕ) → p ≤ q → q < page_count t → IsClean q) → (q : ℕ) → p ≤ q → IsClean q
  clean-past p h q k = elim (dec_lt q (page_count t)) [
    | yes l ↦ h q k l
    | no l ↦ let e : t.memory.flag q ≡ 0 = right.past_flags q (omega arith) in rw e
  ]

  module _ (b : View) where
    sources-made : ((q : ℕ) → t.entry q ≢ Untracked → b.memory.flag q ≡ 0) → (rs : List SourceRun) (p : ℕ) (v : View)
        → SourcesLaid t.entry (page_count t) p rs → Through IsUntracked t b p v
        → Made IsUntracked t b (run does_v (each_in (restore_source directory sources) rs) v)
    unfolding SourcesLaid
    sources-made empty [] p v laid h =
        rw (← (each_in_none does_v (restore_source directory sources) v)) (through_all IsUntracked t b p v h (untracked-past p laid))
    sources-made empty (r ∷ rs) p v laid h =
        let front = laid.0 in
        let one =
        source-restored directory sources t right v h.dark h.size p r front
        (λ q x y. (h.ahead q (omega (arith, front.above))).flag ∙ empty q (tracked_not _ _ _ _ (inside q x y))) in
        let next : r.address / page_size + r.size / page_size ≡ (r.address + r.size) / page_size = omega (arith, front.aligned) in
        let more =
        through_more IsUntracked t b p v h (r.address / page_size) (r.size / page_size) _ (omega (arith, front.above))
        (λ q x y. front.before q x (omega arith))
        (λ q x y. tracked_not _ _ _ _ (inside q x y))
        one in
        rw (← (each_in_turn does_v (restore_source directory sources) r rs v _ _ true refl (sym (eq-eqb _ 0 one.done)) refl))
        (sources-made empty rs _ _ laid.1 (rw next at more))
      where
        inside : (q : ℕ) → r.address / page_size ≤ q → q < r.address / page_size + r.size / page_size
            → t.entry q ≡ Tracked r.id (r.offset + (q * page_size - r.address)) r.flag
        inside q x y = laid.0.inside q (omega (arith, laid.0.aligned)) (omega (arith, laid.0.aligned, laid.0.whole))

    dirty-made : ((q : ℕ) → bit_and (t.memory.flag q) dirty ≢ 0 → b.memory.flag q ≡ 0) → (rs : List Run) (p : ℕ) (v : View)
        → DirtyLaid t.memory.flag (page_count t) p rs → Through IsClean t b p v
        → Made IsClean t b (run does_v (each_in (λ r. on_memory (restore_dirty r)) (map (read_seen t.memory.byte) rs)) v)
    unfolding DirtyLaid
    dirty-made empty [] p v laid h =
        rw (← (each_in_none does_v (λ (r : DirtyRun). on_memory (restore_dirty r)) v)) (through_all IsClean t b p v h (clean-past p laid))
    dirty-made empty (r ∷ rs) p v laid h =
        let front = laid.0 in
        let one =
        dirty-restored directory sources t right v h.dark h.size p r front
        (λ q x y. (h.ahead q (omega (arith, front.above))).flag ∙ empty q (marks q x y)) in
        let more = through_more IsClean t b p v h r.page r.pages _ front.above front.before marks one in
        rw (← (each_in_turn does_v (λ (r : DirtyRun). on_memory (restore_dirty r)) _ _ v _ _ true refl (sym (eq-eqb _ 0 one.done)) refl))
        (dirty-made empty rs _ _ laid.1 more)
      where
        marks : (q : ℕ) → r.page ≤ q → q < r.page + r.pages → bit_and (t.memory.flag q) dirty ≢ 0
        marks q x y = let e : t.memory.flag q ≡ r.flag = laid.0.inside q x y in rw e laid.0.marked

  -- ---- the whole

  abbrev start : View
  start = blank t.memory.size

  -- a clean page that is not tracked is blank, and so is all that is past the machine
  blank-same : (q : ℕ) → IsClean q → IsUntracked q → Same t start q
  blank-same q c u = elim (dec_lt q (page_count t)) [
    | yes h ↦ go (right.pages q h)
    | no h ↦
        record {
          flag = sym (right.past_flags q (omega arith));
          entry = sym u;
          byte = λ i k. sym (right.past_bytes (q * page_size + i) (omega (arith, right.whole)));
        }
  ]
    where
      go : SoundPage directory sources t q → Same t start q
      go (is_dirty n) = absurd (n c)
      go (is_tracked id offset e g d) = absurd (tracked_not (t.entry q) id offset (t.memory.flag q) g u)
      go (is_blank f e z) =
          record {
            flag = sym f;
            entry = sym u;
            byte = λ i k.
                sym (filled_zero page_size i)
                ∙ ap (λ (l : List ℕ). get_or l i 0) (sym z)
                ∙ get_d_span t.memory.byte page_size (q * page_size) i k;
          }

  module _ (s : Snapshot) (sources_are : s.sources ≡ source_runs 0 (along t.entry (page_count t) 0))
      (dirty-are : s.dirty ≡ map (read_seen t.memory.byte) (dirty_runs 0 (along t.memory.flag (page_count t) 0)))
      (reserved : s.state.reservation ≡ t.memory.reservation) where
    abbrev one : ℕ × View
    one = run does_v (each_in (restore_source directory sources) s.sources) start

    abbrev two : ℕ × View
    two = run does_v (each_in (λ r. on_memory (restore_dirty r)) s.dirty) one.1

    after-sources : Made IsUntracked t start one
    after-sources =
        let z : 0 + (page_count t) ≡ (page_count t) = omega arith in
        rw sources_are
        (sources-made start (λ q n. refl) _ 0 start (rw z at (sources-laid t.entry (page_count t) 0))
        (through_none IsUntracked t start refl (λ q. mask_clean 0 Untracked refl)))

    after-dirty : Made IsClean t one.1 two
    after-dirty =
        let z : 0 + (page_count t) ≡ (page_count t) = omega arith in
        let a = after-sources in
        rw dirty-are
        (dirty-made one.1 (λ q n. (a.rest q (dirty-untracked directory sources t right q n)).flag) _ 0 one.1 (rw z at (dirty-laid t.memory.flag (page_count t) 0))
        (through_none IsClean t one.1 a.size a.dark))

    -- every page is as it was
    all_same : (q : ℕ) → Same t two.1 q
    all_same q = elim (ℕ_discrete (bit_and (t.memory.flag q) dirty) 0) [
      | yes c ↦ same_then t one.1 two.1 q (clean c (t.entry q) refl) (after-dirty.rest q c)
      | no n ↦ after-dirty.made q n
    ]
      where
        clean : IsClean q → (e : Tracking) → t.entry q ≡ e → Same t one.1 q
        clean c Untracked u = same_then t start one.1 q (blank-same q c u) (after-sources.rest q u)
        clean c (Tracked id offset flag) e = after-sources.made q (tracked_not (t.entry q) id offset flag e)

    bytes_same : (a : ℕ) → two.1.memory.byte a ≡ t.memory.byte a
    bytes_same a =
        let e : a / page_size * page_size + a % page_size ≡ a = omega arith in
        rw e at ((all_same (a / page_size)).byte (a % page_size) (omega arith))

    reserving : run does_v (on_memory (sparse.set_lr s.state.reservation)) two.1 ≡ (0, t)
    unfolding run sparse.set_lr
    reserving =
        memory_call (sparse.set_lr s.state.reservation) two.1 after-dirty.dark
        ∙ (λ i. (
          0,
          record {
            memory =
                record {
                  byte = fun_ext bytes_same i;
                  flag = fun_ext (λ q. (all_same q).flag) i;
                  size = after-dirty.size i;
                  reservation = reserved i;
                };
            entry = fun_ext (λ q. after-dirty.dark q ∙ (all_same q).entry) i;
          },
        ))

    pages-restored : run does_v (restore_pages directory sources s) start ≡ (0, t)
    unfolding restore_pages restore_runs
    pages-restored =
        let runs : run does_v (restore_runs directory sources s.sources s.dirty) start ≡ two =
        done_then does_v (each_in (restore_source directory sources) s.sources) (each_in (λ r. on_memory (restore_dirty r)) s.dirty) start
        after-sources.done in
        done_then does_v (restore_runs directory sources s.sources s.dirty) (on_memory (sparse.set_lr s.state.reservation)) start
        (ap (λ (r : ℕ × View). r.0) runs ∙ after-dirty.done)
        ∙ ap (λ (r : ℕ × View). run does_v (on_memory (sparse.set_lr s.state.reservation)) r.1) runs
        ∙ reserving

-- a snapshot's runs, restored on a blank memory, give back what was seen of the machine
pub restored : (directory sources : List ℕ) (t : View) → Right directory sources t → (s : Snapshot)
    → s.sources ≡ source_runs 0 (along t.entry (t.memory.size / page_size) 0)
    → s.dirty ≡ map (read_seen t.memory.byte) (dirty_runs 0 (along t.memory.flag (t.memory.size / page_size) 0))
    → s.state.reservation ≡ t.memory.reservation
    → run does_v (restore_pages directory sources s) (blank t.memory.size) ≡ (0, t)
restored directory sources t right s a b c = pages-restored directory sources t right s a b c
