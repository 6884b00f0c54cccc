-- W^X init_pages keeps a machine sound unless a page is frozen, and so does a program that is loaded with it and then marked.
use mathlib.Core.Path.{◌≡◌, refl, sym, ap, ◌∙◌, subst⁻¹}
use mathlib.Core.Bool.{cond}
use mathlib.Core.List.{List, [], ◌∷◌}
use mathlib.Core.Logic.{◌≢◌, ◌⊎◌, inl, inr}
use Prim.Native.Nat.{ℕ, zero, suc, ◌+◌, ◌-◌, ◌/◌, ◌%◌, ◌≤◌, ◌<◌, min}
use native.Mathlib.Omega.{arith}
use native.Mathlib.Decide.{dec_lt}
use lib.ListN.{length, get_or}
use lib.Dec.{ltb, eqb}
use lib.Bits.{bit_and, bit_or}
use borrow.Author.Tests.{lt-ltb, eqb-true, eqb-false, ltb-false}
use Rattle.bits.specs.Rounding.{page_size, rounded_up, rounded_down}
use Rattle.program.specs.Program.{run, ret, perform, onwards, and_then, each}
use Rattle.memory.specs.Pages.{frozen}
use Rattle.memory.specs.Storage.{Valued, valued, no_value}
use Rattle.memory.specs.Operations as memory-op
use Rattle.memory.specs.Sparse as sparse
use Rattle.memory.specs.WXorX.{init_flag, in_bounds, init_pages}
use Rattle.memory.specs.View as memory
use Rattle.memory.proofs.StoreCases.{cases}
use Rattle.tracking.specs.Sources.{find_data, data_of}
use Rattle.tracking.specs.Operations.{on_memory}
use Rattle.tracking.specs.Tracking.{action_at}
use Rattle.handover.specs.View.{View, does_v}
use Rattle.handover.proofs.Effects.{Touched, Apart}
use Rattle.handover.proofs.Gentle.{Good, Step, same_step}
use Rattle.handover.proofs.Steps.{after_cases, each-kept}
use Rattle.handover.proofs.Storing.{touched?, at-one-other}
use Rattle.handover.proofs.Filling.{Filled, fill-filled}
use Rattle.handover.proofs.Tracked.{memory_call}
use Rattle.handover.proofs.KeptTracking.{ActionGives}
use Rattle.handover.proofs.KeptStores.{Stepped, stepped_kept, bytes_apart}
use Rattle.handover.proofs.KeptSources.{data_gives}

-- ---- bounds

record Bounded (m a size lead : ℕ) : Type 0 where
  aligned : a % page_size ≡ 0
  whole : size % page_size ≡ 0
  inside : a + size ≤ m
  leading : lead ≤ size

bounded : (m a size lead : ℕ) → in_bounds m a size lead ≡ 0 → Bounded m a size lead
unfolding in_bounds
bounded m a size lead =
    cases P (eqb (rounded_down a) a) _ _
    (λ x.
    cases P (eqb (rounded_up size) size) _ _
    (λ y.
    cases P (ltb m a) _ _ (λ b e. absurd (omega arith))
    (λ b. cases P (ltb m size) _ _ (λ c e. absurd (omega arith))
    (λ c. cases P (ltb m (a + size)) _ _ (λ d e. absurd (omega arith))
    (λ d. cases P (ltb size lead) _ _ (λ f e. absurd (omega arith))
    (λ f e.
    record {
      aligned = omega (arith, eqb-true (rounded_down a) a x);
      whole = omega (arith, eqb-true (rounded_up size) size y);
      inside = ltb-false m (a + size) d;
      leading = ltb-false size lead f;
    })))))
    (λ y e. absurd (omega arith)))
    (λ x e. absurd (omega arith))
  where
    P : ℕ → Type 0
    P n = n ≡ 0 → Bounded m a size lead

-- ---- flags

-- only the flags of n pages are changed, and what is answered is 0, or 5 for a frozen page
record Set (v : memory.View) (first n : ℕ) (r : ℕ × memory.View) : Type 0 where
  answer : (r.0 ≡ 0) ⊎ (r.0 ≡ 5)
  size : r.1.size ≡ v.size
  byte : r.1.byte ≡ v.byte
  flag_out : (q : ℕ) → (q < first) ⊎ (first + n ≤ q) → r.1.flag q ≡ v.flag q

module _ (v : memory.View) (first n flags : ℕ) (inside : first + n ≤ v.size / page_size) where
  flag-set : (p : ℕ) → first ≤ p → p < first + n → (u : memory.View) → Set v first n (0, u)
      → Set v first n (run memory.does_v (init_flag flags p) u)
  unfolding run init_flag
  flag-set p h k u s =
      subst⁻¹ P there
      (cases (λ (g : memory-op.Call ℕ). Set v first n (run memory.does_v g u)) (eqb (bit_and (u.flag p) frozen) 0) _ _
      (λ e. rw (lt-ltb p (u.size / page_size) below) set)
      (λ e. record { answer = inr refl; size = s.size; byte = s.byte; flag_out = s.flag_out }))
    where
      P : Valued → Type 0
      P f =
          Set v first n
          (run memory.does_v
          (onwards (λ n. n) (cond (eqb (bit_and f.value frozen) 0) (perform (memory-op.or! p flags)) (ret 5)) f.number)
          u)

      below : p < u.size / page_size
      below = rw s.size (omega arith)

      there : cond (ltb p (u.size / page_size)) (valued (u.flag p)) (no_value 2) ≡ valued (u.flag p)
      there = rw (lt-ltb p (u.size / page_size) below)

      other : (q : ℕ) → (q < first) ⊎ (first + n ≤ q) → q ≢ p
      other q (inl l) = omega arith
      other q (inr l) = omega arith

      set : Set v first n (0, memory.flagged u p (bit_or (u.flag p) flags))
      set =
          record {
            answer = inl refl;
            size = s.size;
            byte = s.byte;
            flag_out = λ q l. at-one-other u.flag p (bit_or (u.flag p) flags) q (other q l) ∙ s.flag_out q l;
          }

  flags-set : Set v first n (run memory.does_v (each (init_flag flags) n first) v)
  flags-set =
      each-kept memory.does_v (Set v first n) (init_flag flags) n first flag-set v
      (record { answer = inl refl; size = refl; byte = refl; flag_out = λ q h. refl })

-- ---- init_pages

-- every page dirty or as it was, unless a page was frozen; and the source's bytes are there, where it is done
pub record Initialised (v : memory.View) (a size lead : ℕ) (source : List ℕ) (r : ℕ × memory.View) : Type 0 where
  pub stepped : r.0 ≢ 5 → Stepped v r.1
  pub byte : r.0 ≡ 0 → (i : ℕ) → i < min (length source) (size - lead) → r.1.byte (a + lead + i) ≡ get_or source i 0

module _ (v : memory.View) (a size flags lead : ℕ) (source : List ℕ) (whole : v.size % page_size ≡ 0) where
  -- the flags, and then the fill
  filled-after : Bounded v.size a size lead → (t : memory.View) (r : ℕ × memory.View) → Set v (a / page_size) (size / page_size) (0, t)
      → Filled t a size lead source r → Stepped v r.1
  filled-after b t r s f q = go (touched? a size q)
    where
      pages-out : Apart a size q → (q < a / page_size) ⊎ (a / page_size + size / page_size ≤ q)
      pages-out (inl h) = inl (omega arith)
      pages-out (inr (inl h)) = inr (omega (arith, b.aligned, b.whole))
      pages-out (inr (inr h)) = elim (dec_lt q (a / page_size)) [ yes l ↦ inl l | no l ↦ inr (omega arith) ]

      go : Touched a size q ⊎ Apart a size q → Step v r.1 q
      go (inl t) = inl (f.is_dirty q t)
      go (inr o) = inr (
        f.flag_out q o ∙ s.flag_out q (pages-out o),
        λ x e. f.byte_out x (bytes_apart a size q x e o) ∙ ap (λ (g : ℕ → ℕ). g x) s.byte,
      )

  pages-set : Bounded v.size a size lead
      → Initialised v a size lead source
      (run memory.does_v (and_then (each (init_flag flags) (size / page_size) (a / page_size)) (sparse.fill a size lead source)) v)
  pages-set b =
      after_cases memory.does_v (Initialised v a size lead source) (λ n. n) (each (init_flag flags) (size / page_size) (a / page_size))
      (sparse.fill a size lead source) v done (stopped set.answer)
    where
      left : ℕ × memory.View
      left = run memory.does_v (each (init_flag flags) (size / page_size) (a / page_size)) v

      set : Set v (a / page_size) (size / page_size) left
      set = flags-set v (a / page_size) (size / page_size) flags (omega (arith, b.inside, b.aligned, b.whole))

      done : left.0 ≡ 0 → Initialised v a size lead source (run memory.does_v (sparse.fill a size lead source) left.1)
      done z =
          let f = fill-filled left.1 a size lead source (rw set.size whole) (rw set.size b.inside) b.leading in
          record {
            stepped = λ n.
                filled-after b left.1 (run memory.does_v (sparse.fill a size lead source) left.1)
                (record { answer = inl refl; size = set.size; byte = set.byte; flag_out = set.flag_out }) f;
            byte = λ e. f.source_in;
          }

      stopped : (left.0 ≡ 0) ⊎ (left.0 ≡ 5) → left.0 ≢ 0 → Initialised v a size lead source left
      stopped (inl e) n = absurd (n e)
      stopped (inr e) n = record { stepped = λ k. absurd (k e); byte = λ z. absurd (n z) }

  pub initialised : Initialised v a size lead source (run memory.does_v (init_pages a size flags lead source) v)
  unfolding run init_pages memory-op.fitting
  initialised =
      cases (λ (g : memory-op.Call ℕ). Initialised v a size lead source (run memory.does_v g v)) (eqb (in_bounds v.size a size lead) 0) _ _
      (λ e. pages-set (bounded v.size a size lead (eqb-true _ _ e)))
      (λ e. record { stepped = λ n. same_step v; byte = λ z. absurd (eqb-false _ _ e z) })

module _ (directory sources : List ℕ) where
  pub init_kept : (v : View) (a size flags lead : ℕ) (source : List ℕ) → Good directory sources v → v.memory.size % page_size ≡ 0
      → (run memory.does_v (init_pages a size flags lead source) v.memory).0 ≢ 5
      → Good directory sources (run does_v (on_memory (init_pages a size flags lead source)) v).1
  init_kept v a size flags lead source g whole n =
      stepped_kept directory sources (init_pages a size flags lead source) v g
      ((initialised v.memory a size flags lead source whole).stepped n)

  -- ---- loaded, then marked

  module _ (v : View) (a size flags start end lead id offset : ℕ) where
    abbrev source : List ℕ
    source = data_of sources (find_data directory (length sources) id (offset + start) (end - start))

    abbrev loaded : ℕ × View
    loaded = run does_v (on_memory (init_pages a size flags lead source)) v

    module _ (g : Good directory sources v) (whole : v.memory.size % page_size ≡ 0)
        (found : (find_data directory (length sources) id (offset + start) (end - start)).number ≡ 0) (long : length source ≡ end - start)
        (done : loaded.0 ≡ 0) where
      abbrev r : ℕ × memory.View
      r = run memory.does_v (init_pages a size flags lead source) v.memory

      answer : r.0 ≡ 0
      answer = sym (ap (λ (x : ℕ × View). x.0) (memory_call (init_pages a size flags lead source) v g.masked)) ∙ done

      bytes : (i : ℕ) → i < min (end - start) (size - lead) → loaded.1.memory.byte (a + lead + i) ≡ get_or source i 0
      bytes i h =
          ap (λ (x : ℕ × View). x.1.memory.byte (a + lead + i))
          (memory_call (init_pages a size flags lead source) v g.masked)
          ∙ (initialised v.memory a size flags lead source whole).byte answer i (rw long h)

      -- what is to be marked is what the source gives
      pub loaded-gives : (i : ℕ) → i < 1
          → ActionGives directory sources loaded.1 id offset (action_at (a ∷ size ∷ flags ∷ start ∷ end ∷ lead ∷ []) i)
      loaded-gives zero h =
          data_gives directory sources id (offset + start) (end - start) loaded.1 (a + lead) (min (end - start) (size - lead)) found
          (omega arith) bytes
      loaded-gives (suc i) h = absurd (omega arith)
