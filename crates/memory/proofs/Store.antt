-- The store over pages: what is left is stored from what a turn left, a page on. The bytes left are a list, in the fill one of
-- equal bytes.
use Rattle.std.proofs.Common.{◌≡◌, ℕ, zero, suc, ◌+◌, ◌-◌, ◌*◌, ◌/◌, ◌%◌, ◌<◌, ◌≤◌, min, Bool, true, false, cond, eqb, List, length, take, drop, refl, ap, ◌∙◌, arith, length-drop, w64, Fits, eq-eqb, ne_eqb}
use native.Mathlib.Decide.{dec_lt}
use Rattle.bits.specs.Rounding.{page_size}
use Rattle.program.specs.Program.{ret, perform, and_then, run}
use Rattle.program.proofs.Laws.{then_done, then_stop}
use Rattle.memory.specs.Storage.{State, Fitting, fits, in_page, store_page}
use Rattle.memory.specs.Operations.{does, part! }
use Rattle.memory.specs.Sparse.{store_over, store, store_bytes}
use Rattle.memory.specs.Inner.{Kept}
use Rattle.memory.proofs.Lengths.{fit_not, fit-yes}
use Rattle.outcome.specs.Numbers.{refusal_number}
use Rattle.outcome.specs.declared.Refusal.{Refusal}
use Rattle.memory.proofs.Refused.{refused}
use Rattle.memory.proofs.OnePage.{stored_there}

-- more pages than there are bytes change nothing
enough : (f g a : ℕ) (bytes : List ℕ) → length bytes ≤ f → length bytes ≤ g → store_over f a bytes ≡ store_over g a bytes
unfolding store_over
enough zero zero a bytes hf hg = refl
enough zero (suc g) a bytes hf hg = simp (eq-eqb (length bytes) 0 (omega arith))
enough (suc f) zero a bytes hf hg = simp (eq-eqb (length bytes) 0 (omega arith))
enough (suc f) (suc g) a bytes hf hg =
    let n = in_page a (length bytes) in
    let hf' : length (drop n bytes) ≤ f = simp length-drop (omega arith) in
    let hg' : length (drop n bytes) ≤ g = simp length-drop (omega arith) in
    λ i. cond (eqb (length bytes) 0) (ret 0) (and_then (perform (part! a bytes)) (enough f g (a + n) (drop n bytes) hf' hg' i))

first-page : (f a : ℕ) (bytes : List ℕ) → 0 < length bytes → length bytes ≤ f
    → store_over f a bytes ≡ and_then (perform (part! a bytes)) (store (a + in_page a (length bytes)) (drop (in_page a (length bytes)) bytes))
unfolding store_over store
first-page zero a bytes k hf = absurd (omega arith)
first-page (suc f) a bytes k hf =
    let n = in_page a (length bytes) in
    let z : length bytes ≡ 0 → ⊥ = omega arith in
    let hf' : length (drop n bytes) ≤ f = simp length-drop (omega arith) in
    rw (ne_eqb (length bytes) 0 z)
    (λ i. and_then (perform (part! a bytes)) (enough f (length (drop n bytes)) (a + n) (drop n bytes) hf' (omega arith) i))

module _ (s : State) (p at : ℕ) (bytes : List ℕ) where
  pub store_none : length bytes ≡ 0 → (0, s) ≡ run does (store (p * page_size + at) bytes) s
  unfolding store store_over run
  store_none e = rw e

  -- a turn: n of the bytes lie on page p from its index `at` on; storing them answered k and left t
  module _ (n : ℕ) (h : at < page_size) (some : 0 < length bytes) (cut : n ≡ min (page_size - at) (length bytes)) (k : ℕ) (t : State)
      (d : Bool) (e : (k, t) ≡ store_page s p at (take n bytes)) (i : d ≡ eqb k 0) where
    its-page : (p * page_size + at) / page_size ≡ p
    its-page = omega arith

    its-index : (p * page_size + at) % page_size ≡ at
    its-index = omega arith

    turn : store (p * page_size + at) bytes
        ≡ and_then (perform (part! (p * page_size + at) bytes)) (store (p * page_size + at + n) (drop n bytes))
    unfolding store
    turn = first-page (length bytes) (p * page_size + at) bytes some (omega arith) ∙ rw (its-index, ← cut)

    one : (k, t) ≡ run does (perform (part! (p * page_size + at) bytes)) s
    unfolding run
    one = rw (its-page, its-index, ← cut) e

    -- refused: that is the store's answer
    pub store-stop : d ≡ false → (k, t) ≡ run does (store (p * page_size + at) bytes) s
    store-stop c =
        rw turn (then_stop does (perform (part! (p * page_size + at) bytes)) (store (p * page_size + at + n) (drop n bytes)) s k t d one i c)

    -- where nothing is left, where it would go does not matter
    next : run does (store ((p + 1) * page_size + 0) (drop n bytes)) t ≡ run does (store (p * page_size + at + n) (drop n bytes)) t
    unfolding store store_over
    next = elim (dec_lt (length bytes) (page_size - at)) [
      | yes l ↦ let z : length (drop n bytes) ≡ 0 = simp length-drop (omega arith) in rw z
      | no l ↦ ap (λ (a : ℕ). run does (store a (drop n bytes)) t) (omega arith)
    ]

    -- done: the rest is stored from what it left, a whole page on
    pub store-turn : d ≡ true
        → run does (store ((p + 1) * page_size + 0) (drop n bytes)) t ≡ run does (store (p * page_size + at) bytes) s
    store-turn c =
        next
        ∙ rw turn
        (then_done does (perform (part! (p * page_size + at) bytes)) (store (p * page_size + at + n) (drop n bytes)) s k t d _ one i c refl)

-- ---- the loop: s₀ is the storage at entry with what was to be stored, and s the storage now with what is left
pub record Going (s₀ : State) (page₀ at₀ : ℕ) (bytes₀ : List ℕ) (s : State) (page at : ℕ) (bytes : List ℕ) : Type 0 where
  pub same : run does (store (page * page_size + at) bytes) s ≡ run does (store (page₀ * page_size + at₀) bytes₀) s₀
  pub at_in : at < page_size
  pub slots_kept : length s.slots ≡ length s₀.slots
  pub flags_kept : length s.flags ≡ length s₀.flags
  pub area_kept : length s.area ≡ length s₀.area
  pub size_kept : s.memory.size ≡ s₀.memory.size
  pub reservation_kept : s.memory.reservation ≡ s₀.memory.reservation
  pub fit : Fitting (length s.slots) (length s.flags) (length s.area) s.memory

module _ {s₀ : State} {page₀ at₀ : ℕ} {bytes₀ : List ℕ} {s : State} {page at : ℕ} {bytes : List ℕ}
    (g : Going s₀ page₀ at₀ bytes₀ s page at bytes) where
  -- nothing is left
  pub finish : length bytes ≤ 0 → (0, s) ≡ run does (store (page₀ * page_size + at₀) bytes₀) s₀
  finish h = store_none s page at bytes (omega arith) ∙ g.same

  -- a turn: n of the bytes lie on this page, and storing them left t
  module _ (some : 0 < length bytes) (n : ℕ) (cut : n ≡ min (page_size - at) (length bytes)) (t : State) (piece : List ℕ)
      (p : piece ≡ take n bytes) where
    pub stop-piece : (x : Refusal) → (refusal_number x, t) ≡ store_page s page at piece
        → (refusal_number x, t) ≡ run does (store (page₀ * page_size + at₀) bytes₀) s₀
    stop-piece x e = store-stop s page at bytes n g.at_in some cut (refusal_number x) t false (rw p at e) (refused x) refl ∙ g.same

    pub on-piece : (rest : List ℕ) → rest ≡ drop n bytes → (0, t) ≡ store_page s page at piece
        → length t.slots ≡ length s.slots → length t.flags ≡ length s.flags → length t.area ≡ length s.area
        → Kept (length s.area) s.memory t.memory
        → Going s₀ page₀ at₀ bytes₀ t (page + 1) 0 rest
    on-piece rest q e ks kf ka u =
        let f = g.fit in
        let z = u.size_kept in
        let w = u.used_in in
        rw q (record {
          same = store-turn s page at bytes n g.at_in some cut 0 t true (rw p at e) refl refl ∙ g.same;
          at_in = omega arith;
          slots_kept = ks ∙ g.slots_kept;
          flags_kept = kf ∙ g.flags_kept;
          area_kept = ka ∙ g.area_kept;
          size_kept = z ∙ g.size_kept;
          reservation_kept = u.reservation_kept ∙ g.reservation_kept;
          fit = omega arith;
        })

-- a page that was stored to has a next one
pub page_next : (s t : State) (page at : ℕ) (piece : List ℕ) → (0, t) ≡ store_page s page at piece
    → Fitting (length s.slots) (length s.flags) (length s.area) s.memory
    → Fits w64 (page + 1)
page_next s t page at piece e f = omega (arith, stored_there s t page at 0 piece e refl)

-- ---- the calls

-- an address, taken apart
pub store_at : (s : State) (a : ℕ) (bytes : List ℕ) (r : ℕ × State)
    → r ≡ run does (store (a / page_size * page_size + a % page_size) bytes) s → r ≡ run does (store a bytes) s
store_at s a bytes r q = let z : a / page_size * page_size + a % page_size ≡ a = omega arith in q ∙ rw z

module _ (s : State) (a : ℕ) (bytes : List ℕ) (b : Bool) (e : b ≡ fits s) where
  pub bytes-refused : b ≡ false → (9, s) ≡ run does (store_bytes a bytes) s
  unfolding store_bytes
  bytes-refused t = fit_not (λ n. n) s (store a bytes) b e t

  pub bytes_stored : (r : ℕ × State) → b ≡ true → r ≡ run does (store (a / page_size * page_size + a % page_size) bytes) s
      → r ≡ run does (store_bytes a bytes) s
  unfolding store_bytes
  bytes_stored r t q = fit-yes (λ n. n) s (store a bytes) b e r t (store_at s a bytes r q)
