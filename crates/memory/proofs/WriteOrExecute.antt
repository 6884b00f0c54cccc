-- W^X memory: the check of permission, stores, execute loads and `init_pages`, each in the cases in which it ends.
use Rattle.std.proofs.Common.{◌≡◌, ℕ, ◌+◌, ◌*◌, ◌/◌, ◌%◌, ◌≤◌, Bool, true, false, cond, eqb, ltb, List, length, sym, refl, ap, ◌∙◌, arith, ltb-false, le-ltb, eq-eqb, ne_eqb, eqb-true}
use Rattle.bits.specs.Rounding.{page_size, rounded_up, rounded_down}
use Rattle.program.specs.Program.{run, each, and_then, onwards, ret}
use Rattle.program.proofs.Laws.{after-done, after_stop, then_done, then_stop}
use Rattle.memory.specs.declared.Memory.{Memory}
use Rattle.memory.specs.Pages.{maximum, PageIndices, page_indices, writable, executable}
use Rattle.memory.specs.Storage.{State, Valued, no_value, fits_lengths, fits}
use Rattle.memory.specs.Operations.{Call, does}
use Rattle.memory.specs.Sparse.{permits, store, load, load_wide, fill}
use Rattle.memory.specs.WXorX.{permitted, store_bytes, execute_load, init_flag, in_bounds, init_pages}
use Rattle.memory.proofs.Lengths.{fits_told, fit-yes}
use Rattle.memory.proofs.Store.{store_at}

-- ---- the bounds of `init_pages`

-- a number that both cases come to
other_same : (k x : ℕ) (b : Bool) → (b ≡ false → k ≡ x) → k ≡ cond b k x
other_same k x true h = refl
other_same k x false h = h refl

first-same : (k x : ℕ) (b : Bool) → (b ≡ true → k ≡ x) → k ≡ cond b x k
first-same k x true h = h refl
first-same k x false h = refl

module _ (m a size lead : ℕ) where
  -- an address or a size that is not whole pages
  pub bounds_uneven : (rounded_down a ≡ a → rounded_up size ≡ size → ⊥) → 3 ≡ in_bounds m a size lead
  unfolding in_bounds
  bounds_uneven n =
      first-same 3 _ _ (λ e. first-same 3 _ _ (λ f. absurd (n (eqb-true (rounded_down a) a e) (eqb-true (rounded_up size) size f))))

  module _ (e : rounded_down a ≡ a) (f : rounded_up size ≡ size) where
    -- an address, a size, their sum or the lead past its bound
    pub bounds_past : (a + size ≤ m → lead ≤ size → ⊥) → 2 ≡ in_bounds m a size lead
    unfolding in_bounds
    bounds_past n =
        rw (eq-eqb (rounded_down a) a e, eq-eqb (rounded_up size) size f)
        (other_same 2 _ (ltb m a) (λ _.
        other_same 2 _ (ltb m size) (λ _.
        other_same 2 _ (ltb m (a + size)) (λ k.
        other_same 2 0 (ltb size lead) (λ l. absurd (n (ltb-false m (a + size) k) (ltb-false size lead l)))))))

    pub bounds_kept : a + size ≤ m → lead ≤ size → 0 ≡ in_bounds m a size lead
    unfolding in_bounds
    bounds_kept h l =
        rw (eq-eqb (rounded_down a) a e, eq-eqb (rounded_up size) size f)
        (simp (le-ltb m a (omega arith), le-ltb m size (omega arith), le-ltb m (a + size) h, le-ltb size lead l))

-- ---- a check that answered k, then the rest
module _ (s : State) (g : Call ℕ) (k : ℕ) (d : Bool) (i : d ≡ eqb k 0) where
  goes_on : d ≡ true → run does g s ≡ run does (onwards (λ n. n) g k) s
  goes_on t = ap (λ (b : Bool). run does (cond b g (ret k)) s) (sym t ∙ i)

  stops : d ≡ false → (k, s) ≡ run does (onwards (λ n. n) g k) s
  unfolding run
  stops t = ap (λ (b : Bool). run does (cond b g (ret k)) s) (sym t ∙ i)

-- ---- the check of permission: page indices, then the pages
module _ (s : State) (want a n k first last : ℕ) (d : Bool)
    (e : ◌≡◌ {A = PageIndices} (record { number = k; first = first; last = last }) (page_indices a n)) (i : d ≡ eqb k 0) where
  indexed : run does (onwards (λ k. k) (permits first last want) k) s ≡ run does (permitted want a n) s
  unfolding permitted
  indexed = ap (λ (x : PageIndices). run does (onwards (λ k. k) (permits x.first x.last want) x.number) s) e

  pub permitted-pages : (r : ℕ × State) → d ≡ true → r ≡ run does (permits first last want) s → r ≡ run does (permitted want a n) s
  permitted-pages r t q = q ∙ goes_on s _ k d i t ∙ indexed

  pub permitted_not : d ≡ false → (k, s) ≡ run does (permitted want a n) s
  permitted_not t = stops s _ k d i t ∙ indexed

-- ---- a store of n bytes: none, refused by the check, stored
module _ (s : State) (a n : ℕ) (bytes : List ℕ) (l : length bytes ≡ n) (b : Bool) (e : b ≡ fits s) (t : b ≡ true) where
  pub any_none : n ≡ 0 → (0, s) ≡ run does (store_bytes a bytes) s
  unfolding run store_bytes
  any_none z = fit-yes (λ n. n) s _ b e _ t (rw (l, z))

  module _ (z : n ≡ 0 → ⊥) (k : ℕ) (d : Bool) (p : (k, s) ≡ run does (permitted writable a n) s) (i : d ≡ eqb k 0) where
    some : (r : ℕ × State) → r ≡ run does (and_then (permitted writable a n) (store a bytes)) s → r ≡ run does (store_bytes a bytes) s
    unfolding store_bytes
    some r q = fit-yes (λ n. n) s _ b e _ t (rw (l, ne_eqb n 0 z) q)

    pub any_denied : d ≡ false → (k, s) ≡ run does (store_bytes a bytes) s
    any_denied c = some _ (then_stop does (permitted writable a n) (store a bytes) s k s d p i c)

    pub any-done : (r : ℕ × State) → d ≡ true → r ≡ run does (store (a / page_size * page_size + a % page_size) bytes) s
        → r ≡ run does (store_bytes a bytes) s
    any-done r c q = some r (then_done does (permitted writable a n) (store a bytes) s k s d r p i c (store_at s a bytes r q))

-- ---- an execute load: refused by the check, loaded
module _ (s : State) (a n : ℕ) (b : Bool) (e : b ≡ fits s) (t : b ≡ true) (k : ℕ) (d : Bool)
    (p : (k, s) ≡ run does (permitted executable a n) s) (i : d ≡ eqb k 0) where
  pub executes_denied : d ≡ false → (no_value k, s) ≡ run does (execute_load n a) s
  unfolding execute_load
  executes_denied c = fit-yes no_value s _ b e _ t (after_stop does no_value (permitted executable a n) (load n a) s k s d p i c)

  pub executes_done : (r : Valued × State) → d ≡ true → r ≡ run does (load n a) s → r ≡ run does (execute_load n a) s
  unfolding execute_load
  executes_done r c q = fit-yes no_value s _ b e _ t (after-done does no_value (permitted executable a n) (load n a) s k s d r p i c q)

  pub executes_wide : (r : Valued × State) → d ≡ true → r ≡ run does (load_wide n a) s → r ≡ run does (execute_load n a) s
  unfolding load_wide
  executes_wide r c q = executes_done r c (q ∙ sym (fit-yes no_value s (load n a) b e _ t refl))

-- ---- `init_pages`

-- its bound is at most the maximum
pub fits-small : (slots flags area : ℕ) (m : Memory) (b : Bool) → b ≡ fits_lengths slots flags area m → b ≡ true → m.size ≤ maximum
fits-small slots flags area m b e t = (fits_told slots flags area m b e t).small

-- refused by the bounds; else the flags of the pages, and the fill
module _ (s : State) (a size f lead : ℕ) (source : List ℕ) (b : Bool) (e : b ≡ fits s) (t : b ≡ true) (k : ℕ) (d : Bool)
    (p : k ≡ in_bounds s.memory.size a size lead) (i : d ≡ eqb k 0) where
  abbrev filling : Call ℕ
  filling = and_then (each (init_flag f) (size / page_size) (a / page_size)) (fill a size lead source)

  bounded : run does (onwards (λ n. n) filling k) s ≡ run does (init_pages a size f lead source) s
  unfolding run init_pages
  bounded = fit-yes (λ n. n) s _ b e _ t (ap (λ (k : ℕ). run does (onwards (λ n. n) filling k) s) p)

  pub init_refused : d ≡ false → (k, s) ≡ run does (init_pages a size f lead source) s
  init_refused c = stops s filling k d i c ∙ bounded

  pub init_filled : (r : ℕ × State) → d ≡ true
      → r ≡ run does (and_then (each (init_flag f) (size / page_size) (a / page_size)) (fill a size lead source)) s
      → r ≡ run does (init_pages a size f lead source) s
  init_filled r c q = q ∙ goes_on s filling k d i c ∙ bounded
