-- What a W^X store and a run of a snapshot leave of each page, whatever they answer: it is dirty, or as it was.
use mathlib.Core.Path.{◌≡◌, refl, ap, ◌∙◌, subst⁻¹}
use mathlib.Core.Bool.{cond}
use mathlib.Core.List.{List}
use mathlib.Core.Logic.{◌≢◌, ◌⊎◌, inl, inr}
use Prim.Native.Nat.{ℕ, ◌+◌, ◌-◌, ◌/◌, ◌%◌, ◌≤◌, ◌<◌}
use native.Mathlib.Omega.{arith}
use native.Mathlib.Decide.{dec_lt}
use lib.ListN.{length, get_or}
use lib.Dec.{ltb, leb, eqb}
use lib.Bits.{bit_and, bit_or}
use borrow.Author.Tests.{eqb-true, eqb-false, ltb-true}
use Rattle.bits.specs.Rounding.{page_size}
use Rattle.program.specs.Program.{run, ret, onwards, each}
use Rattle.program.proofs.Keeps.{kept}
use Rattle.memory.specs.Pages.{PageIndices, pages_within, maximum, dirty, wxorx_bit, writable}
use Rattle.memory.specs.Storage.{Valued}
use Rattle.memory.specs.Operations as memory-op
use Rattle.memory.specs.Sparse as sparse
use Rattle.memory.specs.WXorX as wxorx
use Rattle.memory.specs.View as memory
use Rattle.memory.proofs.StoreCases.{cases}
use Rattle.memory.proofs.Dirty.{dirty-set, or_dirty}
use Rattle.memory.proofs.Seen.{op_size_seen}
use Rattle.tracking.specs.Operations.{lengths?, entry?, track!, drop!, drop_all!, AnyOp, Call, on_memory, top}
use Rattle.program.specs.Layers.{low, own}
use Rattle.snapshot.specs.Resume.{set_flags, store_run}
use Rattle.handover.specs.View.{View, does_v}
use Rattle.handover.proofs.Asks.{asks-kept}
use Rattle.handover.proofs.Effects.{Touched, Apart, Stored}
use Rattle.handover.proofs.Gentle.{Good, Step, same_step, flag_step, on_page_step, memory_step, stepped-good, GentleMemory, GentleCall, gentle_wxorx}
use Rattle.handover.proofs.Steps.{after_cases, each-kept, each-done}
use Rattle.handover.proofs.Storing.{stored_none, store_stored, touched?}
use Rattle.handover.proofs.Tracked.{memory_call}

-- ---- every page dirty, or as it was

abbrev pub Stepped : memory.View → memory.View → Type 0
Stepped v u = (q : ℕ) → Step v u q

pub step_then : (v u w : memory.View) (q : ℕ) → Step v u q → Step u w q → Step v w q
step_then v u w q s (inl n) = inl n
step_then v u w q (inl n) (inr e) = inl (rw e.0 n)
step_then v u w q (inr d) (inr e) = inr (e.0 ∙ d.0, λ x z. e.1 x z ∙ d.1 x z)

-- a dirty page stays dirty
step_dirty : (v u : memory.View) (q : ℕ) → Step v u q → bit_and (v.flag q) dirty ≢ 0 → bit_and (u.flag q) dirty ≢ 0
step_dirty v u q (inl n) d = n
step_dirty v u q (inr e) d = rw e.0 d

pub gentle_stepped : {A : Type 0} (g : memory-op.Call A) → GentleCall g → (v : memory.View) → Stepped v (run memory.does_v g v).1
gentle_stepped g a v =
    asks-kept {Reply = memory-op.Reply} GentleMemory memory.does_v (Stepped v)
    (λ o b u s q. step_then v u (memory.does_v o u).1 q (s q) (memory_step o b u q)) g a v (same_step v)

pub size_kept : {A : Type 0} (g : memory-op.Call A) (v : memory.View) → (run memory.does_v g v).1.size ≡ v.size
size_kept g v = kept memory.does_v (λ u. u.size ≡ v.size) (λ o u e. op_size_seen o u ∙ e) g v refl

-- with records
pub view-size : {A : Type 0} (g : Call A) (v : View) → (run does_v g v).1.memory.size ≡ v.memory.size
view-size g v = kept does_v (λ u. u.memory.size ≡ v.memory.size) (λ o u e. op_size o u ∙ e) g v refl
  where
    op_size : (o : AnyOp) (u : View) → (does_v o u).1.memory.size ≡ u.memory.size
    op_size (low o) u = op_size_seen o u.memory
    op_size (own lengths?) u = refl
    op_size (own (entry? p)) u = refl
    op_size (own (track! p id offset)) u =
        cases (λ (r : ℕ × View). r.1.memory.size ≡ u.memory.size) (ltb p (u.memory.size / page_size)) _ _
        (λ e.
        cases (λ (r : ℕ × View). r.1.memory.size ≡ u.memory.size) (leb (offset + page_size) top) _ _ (λ e. refl) (λ e. refl))
        (λ e. refl)
    op_size (own (drop! p)) u = op_size_seen (memory-op.or! p dirty) u.memory
    op_size (own drop_all!) u = refl

-- such a call on the memory keeps a machine's pages sound
pub stepped_kept : (directory sources : List ℕ) {A : Type 0} (g : memory-op.Call A) (v : View) → Good directory sources v
    → Stepped v.memory (run memory.does_v g v.memory).1 → Good directory sources (run does_v (on_memory g) v).1
stepped_kept directory sources {A} g v w s =
    subst⁻¹ (λ (r : A × View). Good directory sources r.1) (memory_call g v w.masked)
    (stepped-good directory sources v (run memory.does_v g v.memory).1 (size_kept g v.memory) s w)

-- ---- a W^X store that is done

module _ (v : memory.View) where
  -- a page's permission, of whatever its flag is
  abbrev judge : Valued → memory-op.Call ℕ
  judge f = onwards (λ n. n) (ret (cond (eqb (bit_and f.value wxorx_bit) (bit_and writable wxorx_bit)) 0 4)) f.number

  permit_still : (q : ℕ) → (run memory.does_v (sparse.permit writable q) v).1 ≡ v
  unfolding run sparse.permit
  permit_still q =
      cases (λ (f : Valued). (run memory.does_v (judge f) v).1 ≡ v) (ltb q (v.size / page_size)) _ _ (λ e. refl) (λ e. refl)

  permit-there : (q : ℕ) → (run memory.does_v (sparse.permit writable q) v).0 ≡ 0 → q < v.size / page_size
  unfolding run sparse.permit
  permit-there q =
      cases (λ (f : Valued). (run memory.does_v (judge f) v).0 ≡ 0 → q < v.size / page_size) (ltb q (v.size / page_size)) _ _
      (λ e z. ltb-true _ _ e)
      (λ e z. absurd (omega arith))

  -- pages that were asked for permission, of n bytes from a on: nothing is changed, and where it was given they are there
  abbrev Granted : ℕ → ℕ → ℕ × memory.View → Type 0
  Granted a n r = (r.1 ≡ v) × (r.0 ≡ 0 → a + n ≤ v.size)

  granted : (a n : ℕ) → v.size % page_size ≡ 0 → 0 < n → Granted a n (run memory.does_v (wxorx.permitted writable a n) v)
  unfolding run wxorx.permitted sparse.permits pages_within
  granted a n whole some =
      cases P (eqb n 0) _ _ (λ e. refused)
      (λ e. cases P (leb (a + n) maximum) _ _
      (λ b. (
        each-kept memory.does_v (λ r. r.1 ≡ v) (sparse.permit writable) count first
            (λ q h k u z. ap (λ (t : memory.View). (run memory.does_v (sparse.permit writable q) t).1) z ∙ permit_still q) v refl,
        λ z.
            let l : last < v.size / page_size =
            permit-there last
            (each-done memory.does_v (sparse.permit writable) v permit_still count first z last (omega arith) (omega arith)) in
            omega arith,
      ))
      (λ b. refused))
    where
      first : ℕ
      first = a / page_size

      last : ℕ
      last = (a + n - 1) / page_size

      count : ℕ
      count = last + 1 - first

      P : PageIndices → Type 0
      P i =
          Granted a n
          (run memory.does_v (onwards (λ k. k) (each (sparse.permit writable) (i.last + 1 - i.first) i.first) i.number) v)

      refused : (v ≡ v) × (◌≡◌ {A = ℕ} 2 0 → a + n ≤ v.size)
      refused = (refl, λ z. absurd (omega arith))

  pub wx_done : (a : ℕ) (bytes : List ℕ) → v.size % page_size ≡ 0 → (run memory.does_v (wxorx.store_bytes a bytes) v).0 ≡ 0
      → Stored v a bytes (run memory.does_v (wxorx.store_bytes a bytes) v)
  unfolding run wxorx.store_bytes memory-op.fitting
  wx_done a bytes whole =
      cases (λ g. P (run memory.does_v g v)) (eqb (length bytes) 0) _ _
      (λ e z. stored_none v a bytes (eqb-true _ _ e))
      (λ e.
      let n : length bytes ≢ 0 = eqb-false _ _ e in
      let g : Granted a (length bytes) (run memory.does_v (wxorx.permitted writable a (length bytes)) v) =
      granted a (length bytes) whole (omega arith) in
      after_cases memory.does_v P (λ n. n) (wxorx.permitted writable a (length bytes)) (sparse.store a bytes) v
      (λ z t.
      subst⁻¹ (λ (u : memory.View). Stored v a bytes (run memory.does_v (sparse.store a bytes) u)) g.0
      (store_stored v a bytes whole (g.1 z)))
      (λ z t. absurd (z t)))
    where
      P : ℕ × memory.View → Type 0
      P r = r.0 ≡ 0 → Stored v a bytes r

-- none of the bytes are on a page that is apart from them
pub bytes_apart : (a n q x : ℕ) → x / page_size ≡ q → Apart a n q → (x < a) ⊎ (a + n ≤ x)
bytes_apart a n q x e (inl h) = inl (omega arith)
bytes_apart a n q x e (inr (inl h)) = inr (omega arith)
bytes_apart a n q x e (inr (inr h)) = elim (dec_lt x a) [ yes l ↦ inl l | no l ↦ inr (omega arith) ]

-- the pages of bytes that are stored are dirty, the others as they were
pub stored-stepped : (v : memory.View) (a : ℕ) (bytes : List ℕ) (r : ℕ × memory.View) → Stored v a bytes r → Stepped v r.1
stored-stepped v a bytes r s q = go (touched? a (length bytes) q)
  where
    go : Touched a (length bytes) q ⊎ Apart a (length bytes) q → Step v r.1 q
    go (inl t) = inl (rw (s.flag_inside q t) (omega (arith, dirty-set (v.flag q))))
    go (inr t) = inr (s.flag_out q t, λ x e. s.byte_out x (bytes_apart a (length bytes) q x e t))

-- ---- flags set on pages that are dirty

-- only flags are changed, and only those of dirty pages, which stay dirty
pub record Flagged (v u : memory.View) : Type 0 where
  pub stepped : Stepped v u
  pub byte : u.byte ≡ v.byte

module _ (v : memory.View) (first n f : ℕ) (marked : (q : ℕ) → first ≤ q → q < first + n → bit_and (v.flag q) dirty ≢ 0) where
  flag-kept : (q : ℕ) → first ≤ q → q < first + n → (u : memory.View) → Flagged v u
      → Flagged v (run memory.does_v (sparse.set_flag q f) u).1
  unfolding run sparse.set_flag memory-op.fitting
  flag-kept q h k u s =
      let d : bit_and (u.flag q) dirty ≢ 0 = step_dirty v u q (s.stepped q) (marked q h k) in
      record {
        stepped = λ p.
            step_then v u (memory.on_page u q (memory.flagged u q (bit_or (u.flag q) f))).1 p (s.stepped p)
            (on_page_step u q (memory.flagged u q (bit_or (u.flag q) f))
            (flag_step u q (bit_or (u.flag q) f) (inl (λ e. d (or_dirty (u.flag q) f e)))) p);
        byte =
            cases (λ (r : ℕ × memory.View). r.1.byte ≡ v.byte) (ltb q (u.size / page_size)) _ _ (λ e. s.byte) (λ e. s.byte);
      }

  pub flags_kept : Flagged v (run memory.does_v (set_flags first n f) v).1
  unfolding set_flags
  flags_kept =
      each-kept memory.does_v (λ r. Flagged v r.1) (λ p. sparse.set_flag p f) n first flag-kept v
      (record { stepped = same_step v; byte = refl })

-- ---- a run of a snapshot

-- every page dirty or as it was; and where it is done, the bytes from a on
pub record Ran (v : memory.View) (a : ℕ) (bytes : List ℕ) (r : ℕ × memory.View) : Type 0 where
  pub stepped : Stepped v r.1
  pub byte : r.0 ≡ 0 → (i : ℕ) → i < length bytes → r.1.byte (a + i) ≡ get_or bytes i 0

pub store_ran : (v : memory.View) (a : ℕ) (bytes : List ℕ) → v.size % page_size ≡ 0
    → Ran v a bytes (run memory.does_v (wxorx.store_bytes a bytes) v)
store_ran v a bytes whole =
    record {
      stepped = gentle_stepped (wxorx.store_bytes a bytes) (gentle_wxorx a bytes) v;
      byte = λ z. (wx_done v a bytes whole z).byte_inside;
    }

pub run_ran : (v : memory.View) (a f : ℕ) (bytes : List ℕ) → v.size % page_size ≡ 0 → a % page_size ≡ 0
    → Ran v a bytes (run memory.does_v (store_run a f bytes) v)
unfolding store_run
run_ran v a f bytes whole aligned =
    after_cases memory.does_v (Ran v a bytes) (λ n. n) (wxorx.store_bytes a bytes) (set_flags (a / page_size) (length bytes / page_size) f) v
    (λ z.
    let s = wx_done v a bytes whole z in
    let k = flags_kept t (a / page_size) (length bytes / page_size) f (λ q h l. touched s q h l) in
    record {
      stepped = λ q. step_then v t u q (stored-stepped v a bytes (run memory.does_v (wxorx.store_bytes a bytes) v) s q) (k.stepped q);
      byte = λ e i h. ap (λ (g : ℕ → ℕ). g (a + i)) k.byte ∙ s.byte_inside i h;
    })
    (λ n. store_ran v a bytes whole)
  where
    t : memory.View
    t = (run memory.does_v (wxorx.store_bytes a bytes) v).1

    u : memory.View
    u = (run memory.does_v (set_flags (a / page_size) (length bytes / page_size) f) t).1

    touched : Stored v a bytes (run memory.does_v (wxorx.store_bytes a bytes) v)
        → (q : ℕ) → a / page_size ≤ q → q < a / page_size + length bytes / page_size → bit_and (t.flag q) dirty ≢ 0
    touched s q h l =
        let k : Touched a (length bytes) q = record { some = omega arith; above = omega arith; below = omega arith } in
        rw (s.flag_inside q k) (omega (arith, dirty-set (v.flag q)))
