-- What a call on the memory, pages tracked and a run stored come to on the view of a machine.
use mathlib.Core.Path.{◌≡◌, refl, sym, ap, ◌∙◌, subst⁻¹, fun_ext}
use mathlib.Core.List.{List}
use mathlib.Core.Logic.{◌≢◌, ◌⊎◌, inl, inr}
use Prim.Native.Nat.{ℕ, zero, suc, ◌+◌, ◌-◌, ◌*◌, ◌/◌, ◌%◌, ◌^◌, ◌≤◌, ◌<◌}
use native.Mathlib.Decide.{ℕ_discrete}
use native.Mathlib.Omega.{arith}
use lib.ListN.{length, get_or}
use lib.Bits.{bit_or, bit_and}
use borrow.Author.Tests.{lt-ltb, le-ltb, le-leb, eq-eqb, ne_eqb}
use Rattle.bits.specs.Rounding.{page_size}
use Rattle.program.specs.Program.{ret, ask, run, each}
use Rattle.program.specs.Layers.{lift}
use Rattle.memory.specs.Pages.{maximum, wxorx_bit, dirty, cleared}
use Rattle.memory.specs.Operations as memory-op
use Rattle.memory.specs.WXorX as wxorx
use Rattle.memory.specs.View as memory
use Rattle.memory.proofs.Dirty.{dirty-set, or_dirty}
use Rattle.memory.proofs.Seen.{program-dirty}
use Rattle.tracking.specs.declared.records.Tracking.{Tracking}
use Rattle.tracking.specs.declared.records.Tracking.TheVariants.{Untracked, Tracked}
use Rattle.tracking.specs.Operations.{Call, fitting, on_memory, masked, top}
use Rattle.tracking.specs.Tracking.{distance, track_from, track_whole, track, track_pages}
use Rattle.snapshot.specs.Resume.{set_flags, store_run}
use Rattle.handover.specs.View.{View, remasked, entry_at, clean_v, tracked_v, does_v}
use Rattle.handover.proofs.Seen.{mask_dirty, mask_twice}
use Rattle.handover.proofs.Effects.{Masked, Touched, Apart, Stored, Ored, Tracks}
use Rattle.handover.proofs.Storing.{done_then, goes_on, at-one-same, at-one-other, wx_stored, off_others, off_first, flags_ored}

-- ---- a call on the memory

pub remasked-masked : {A : Type 0} (v : View) (r : A × memory.View) → Masked (remasked v r).1
remasked-masked v r q = mask_twice (r.1.flag q) (r.1.flag q) (v.entry q) (λ e. e)

-- masked by what is left, or by what was there in between and then by what is left
remasked_twice : {A B : Type 0} (v : View) (r : A × memory.View) (t : B × memory.View)
    → ((q : ℕ) → bit_and (t.1.flag q) dirty ≡ 0 → bit_and (r.1.flag q) dirty ≡ 0)
    → remasked (remasked v r).1 t ≡ remasked v t
remasked_twice v r t h = λ i. (
  t.0,
  record {
    memory = t.1;
    entry = fun_ext (λ q. mask_twice (r.1.flag q) (t.1.flag q) (v.entry q) (h q)) i;
  },
)

pub memory_call : {A : Type 0} (g : memory-op.Call A) (v : View) → Masked v
    → run does_v (on_memory g) v ≡ remasked v (run memory.does_v g v.memory)
unfolding run lift
memory_call (ret x) v m = λ i. (x, record { memory = v.memory; entry = fun_ext (λ q. sym (m q)) i })
memory_call (ask o k) v m =
    let r = memory.does_v o v.memory in
    memory_call (k r.0) (remasked v r).1 (remasked-masked v r)
    ∙ remasked_twice v r (run memory.does_v (k r.0) r.1) (program-dirty (k r.0) r.1)

pub after_memory : {A : Type 0} (g : memory-op.Call A) (v : View) → Masked v → Masked (run does_v (on_memory g) v).1
after_memory {A} g v m =
    subst⁻¹ (λ (r : A × View). Masked r.1) (memory_call g v m) (remasked-masked v (run memory.does_v g v.memory))

-- ---- pages tracked in turn

module _ (entry : ℕ → Tracking) (p : ℕ) (t : Tracking) (q : ℕ) where
  pub entry-at-same : q ≡ p → entry_at entry p t q ≡ t
  unfolding entry_at
  entry-at-same e = rw (eq-eqb q p e)

  pub entry-at-other : q ≢ p → entry_at entry p t q ≡ entry q
  unfolding entry_at
  entry-at-other n = rw (ne_eqb q p n)

tracks_none : (v : View) (first id offset : ℕ) → Tracks v first 0 id offset (0, v)
tracks_none v first id offset =
    record {
      done = refl;
      size = refl;
      reservation = refl;
      byte = λ x. refl;
      flag_inside = λ q h k. absurd (omega arith);
      flag_out = λ q h. refl;
      entry_inside = λ q h k. absurd (omega arith);
      entry_out = λ q h. refl;
    }

-- one more before the others
module _ (v : View) (first n id offset : ℕ) (r : ℕ × View)
    (u : Tracks (tracked_v v first id offset) (first + 1) n id (offset + page_size) r) where
  tracks_more : Tracks v first (suc n) id offset r
  tracks_more =
      record {
        done = u.done;
        size = u.size;
        reservation = u.reservation;
        byte = u.byte;
        flag_inside = λ q h k. elim (ℕ_discrete q first) [
          | yes e ↦ u.flag_out q (inl (omega arith)) ∙ at-one-same v.memory.flag first _ q e ∙ ap (clean_v v) (sym e)
          | no e ↦
              u.flag_inside q (omega arith) (omega arith)
              ∙ ap (λ (x : ℕ). cleared x dirty) (at-one-other v.memory.flag first _ q e)
        ];
        flag_out = λ q h. u.flag_out q (off_others first n q h) ∙ at-one-other v.memory.flag first _ q (off_first first n q h);
        entry_inside = λ q h k. elim (ℕ_discrete q first) [
          | yes e ↦
              let z : offset ≡ offset + (q - first) * page_size = omega arith in
              u.entry_out q (inl (omega arith)) ∙ entry-at-same v.entry first _ q e
              ∙ (λ i. Tracked id (z i) (clean_v v (sym e i)))
          | no e ↦
              let z : offset + page_size + (q - (first + 1)) * page_size ≡ offset + (q - first) * page_size = omega arith in
              u.entry_inside q (omega arith) (omega arith)
              ∙ (λ i. Tracked id (z i) (cleared (at-one-other v.memory.flag first (clean_v v first) q e i) dirty))
        ];
        entry_out = λ q h. u.entry_out q (off_others first n q h) ∙ entry-at-other v.entry first _ q (off_first first n q h);
      }

-- a page that is there
page-tracked : (v : View) (first id offset p : ℕ) → p < v.memory.size / page_size → offset + (p - first) * page_size + page_size ≤ top
    → run does_v (track_from first id offset p) v ≡ (0, tracked_v v p id (offset + (p - first) * page_size))
unfolding run
page-tracked v first id offset p h k = rw (lt-ltb _ _ h, le-leb _ _ k)

tracks-each : (n : ℕ) (v : View) (first id offset p : ℕ) → first ≤ p → p + n ≤ v.memory.size / page_size
    → offset + (p - first + n) * page_size ≤ top
    → Tracks v p n id (offset + (p - first) * page_size) (run does_v (each (track_from first id offset) n p) v)
unfolding run each
tracks-each zero v first id offset p l h k = tracks_none v p id _
tracks-each (suc n) v first id offset p l h k =
    let w : View = tracked_v v p id (offset + (p - first) * page_size) in
    let e : run does_v (track_from first id offset p) v ≡ (0, w) = page-tracked v first id offset p (omega arith) (omega arith) in
    let rest : Call ℕ = each (track_from first id offset) n (p + 1) in
    let z : offset + (p + 1 - first) * page_size ≡ offset + (p - first) * page_size + page_size = omega arith in
    subst⁻¹ (Tracks v p (suc n) id (offset + (p - first) * page_size))
    (goes_on does_v (track_from first id offset p) rest v w e)
    (tracks_more v p n id (offset + (p - first) * page_size) (run does_v rest w)
    (rw z at (tracks-each n w first id offset (p + 1) (omega arith) (omega arith) (omega arith))))

-- whole pages, from the first of them on
track-is : (first n id offset : ℕ) → first * page_size ≤ 2 ^ 64 - page_size → offset ≤ top
    → track (first * page_size) (n * page_size) id offset ≡ track_whole first n id offset
unfolding track
track-is first n id offset h k =
    let d : distance (first * page_size) ≡ 0 = omega arith in
    let a : (first * page_size + 0) / page_size ≡ first = omega arith in
    let b : (n * page_size - 0) / page_size ≡ n = omega arith in
    let c : offset + 0 ≡ offset = omega arith in
    rw (d, le-ltb (n * page_size) 0 (omega arith), le-ltb (2 ^ 64 - page_size) (first * page_size) h, a, b, c, le-ltb top offset k)

pub pages_tracked : (v : View) (first n id offset : ℕ) → first + n ≤ v.memory.size / page_size → v.memory.size ≤ maximum
    → offset + n * page_size ≤ top
    → Tracks v first n id offset (run does_v (track_pages (first * page_size) (n * page_size) id offset) v)
unfolding run track_pages fitting track_whole
pages_tracked v first n id offset h m k =
    let z : offset + (first - first) * page_size ≡ offset = omega arith in
    rw (track-is first n id offset (omega arith) (omega arith))
    (rw z at (tracks-each n v first id offset first (omega arith) h (omega arith)))

-- ---- a run stored

-- the pages of a run from page `first` on hold its bytes, are dirty and have the run's flag too; a dirty page shows no entry
pub record RunStored (v : View) (first f : ℕ) (bytes : List ℕ) (r : ℕ × View) : Type 0 where
  pub done : r.0 ≡ 0
  pub size : r.1.memory.size ≡ v.memory.size
  pub reservation : r.1.memory.reservation ≡ v.memory.reservation
  pub byte_inside : (i : ℕ) → i < length bytes → r.1.memory.byte (first * page_size + i) ≡ get_or bytes i 0
  pub byte_out : (x : ℕ) → (x < first * page_size) ⊎ (first * page_size + length bytes ≤ x) → r.1.memory.byte x ≡ v.memory.byte x
  pub flag_inside : (q : ℕ) → first ≤ q → q < first + length bytes / page_size
      → r.1.memory.flag q ≡ bit_or (bit_or (v.memory.flag q) dirty) f
  pub flag_out : (q : ℕ) → (q < first) ⊎ (first + length bytes / page_size ≤ q) → r.1.memory.flag q ≡ v.memory.flag q
  pub entry_inside : (q : ℕ) → first ≤ q → q < first + length bytes / page_size → r.1.entry q ≡ Untracked
  pub entry_out : (q : ℕ) → (q < first) ⊎ (first + length bytes / page_size ≤ q) → r.1.entry q ≡ v.entry q
  pub masked : Masked r.1

pub still_dirty : (x f : ℕ) → bit_and (bit_or (bit_or x dirty) f) dirty ≢ 0
still_dirty x f e = omega (arith, or_dirty (bit_or x dirty) f e, dirty-set x)

-- "store; set flags": the bytes stored, t, and then the flags set, r
module _ (v : View) (first f : ℕ) (bytes : List ℕ) (whole : length bytes % page_size ≡ 0) (m : Masked v) (t r : ℕ × memory.View)
    (s : Stored v.memory (first * page_size) bytes t) (o : Ored t.1 first (length bytes / page_size) f r) where
  touches : (q : ℕ) → first ≤ q → q < first + length bytes / page_size → Touched (first * page_size) (length bytes) q
  touches q h k = record { some = omega arith; above = omega arith; below = omega arith }

  apart : (q : ℕ) → (q < first) ⊎ (first + length bytes / page_size ≤ q) → Apart (first * page_size) (length bytes) q
  apart q (inl h) = inl (omega arith)
  apart q (inr h) = inr (inl (omega arith))

  flag_of_page : (q : ℕ) → first ≤ q → q < first + length bytes / page_size → r.1.flag q ≡ bit_or (bit_or (v.memory.flag q) dirty) f
  flag_of_page q h k = o.flag_inside q h k ∙ ap (λ (x : ℕ). bit_or x f) (s.flag_inside q (touches q h k))

  flag-around : (q : ℕ) → (q < first) ⊎ (first + length bytes / page_size ≤ q) → r.1.flag q ≡ v.memory.flag q
  flag-around q h = o.flag_out q h ∙ s.flag_out q (apart q h)

  flags-over : RunStored v first f bytes (remasked v r)
  flags-over =
      record {
        done = o.done;
        size = o.size ∙ s.size;
        reservation = o.reservation ∙ s.reservation;
        byte_inside = λ i h. o.byte (first * page_size + i) ∙ s.byte_inside i h;
        byte_out = λ x h. o.byte x ∙ s.byte_out x h;
        flag_inside = flag_of_page;
        flag_out = flag-around;
        entry_inside = λ q h k.
            ap (λ (x : ℕ). masked x (v.entry q)) (flag_of_page q h k) ∙ mask_dirty _ (v.entry q) (still_dirty (v.memory.flag q) f);
        entry_out = λ q h. ap (λ (x : ℕ). masked x (v.entry q)) (flag-around q h) ∙ m q;
        masked = remasked-masked v r;
      }

pub run_stored : (v : View) (first f : ℕ) (bytes : List ℕ) → Masked v → v.memory.size % page_size ≡ 0 → v.memory.size ≤ maximum
    → length bytes % page_size ≡ 0 → first * page_size + length bytes ≤ v.memory.size
    → ((q : ℕ) → first ≤ q → q < first + length bytes / page_size → bit_and (v.memory.flag q) wxorx_bit ≡ 0)
    → RunStored v first f bytes (run does_v (on_memory (store_run (first * page_size) f bytes)) v)
unfolding store_run
run_stored v first f bytes m whole small pages fits free =
    let s =
    wx_stored v.memory (first * page_size) bytes whole small fits
    (λ q t. free q (omega (arith, t.above)) (omega (arith, t.below))) in
    let t : ℕ × memory.View = run memory.does_v (wxorx.store_bytes (first * page_size) bytes) v.memory in
    let z : first * page_size / page_size ≡ first = omega arith in
    let n : t.1.size ≡ v.memory.size = s.size in
    let o = flags_ored t.1 first (length bytes / page_size) f (omega arith) in
    let e =
    done_then memory.does_v (wxorx.store_bytes (first * page_size) bytes) (set_flags first (length bytes / page_size) f) v.memory s.done in
    rw (memory_call _ v m, z, e) (flags-over v first f bytes pages m t _ s o)
