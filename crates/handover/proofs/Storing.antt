-- What a store comes to on the view: bytes stored, and every page that has some of them dirty; and flags set on pages in turn.
use mathlib.Core.Path.{◌≡◌, refl, sym, ap, ◌∙◌, subst, subst⁻¹}
use mathlib.Core.Bool.{true, cond}
use mathlib.Core.List.{List, ◌++◌}
use mathlib.Core.Logic.{◌≢◌, ◌⊎◌, inl, inr}
use Prim.Native.Nat.{ℕ, zero, suc, ◌+◌, ◌-◌, ◌*◌, ◌/◌, ◌%◌, ◌≤◌, ◌<◌, min, max}
use native.Mathlib.Decide.{ℕ_discrete, dec_lt}
use native.Mathlib.Omega.{arith}
use lib.ListN.{length, get_or, take, drop, length-append, length-take, length-drop, take-append-drop, get_or-append}
use lib.Seq.{get_or-append-add}
use lib.Dec.{ltb, eqb}
use lib.Bits.{bit_or, bit_and, or_add_and}
use borrow.Author.Tests.{lt-ltb, le-ltb, eq-eqb, ne_eqb, eqb-true, eqb-false}
use Rattle.bits.specs.Rounding.{page_size}
use Rattle.program.specs.Program.{Prog, ret, run, perform, onwards, and_then, each}
use Rattle.program.proofs.Laws.{then_done}
use Rattle.memory.specs.Pages.{maximum, wxorx_bit, writable, dirty}
use Rattle.memory.specs.Storage.{Valued, valued, no_value, in_page}
use Rattle.memory.specs.Operations.{Call, fitting, part! }
use Rattle.memory.specs.Sparse as sparse
use Rattle.memory.specs.WXorX as wxorx
use Rattle.memory.specs.View as memory
use Rattle.memory.proofs.PageIndices.{indices-are}
use Rattle.memory.proofs.Dirty.{dirty-set}
use Rattle.memory.proofs.StoreCases.{cases}
use Rattle.snapshot.specs.Resume.{set_flags}
use Rattle.handover.proofs.Effects.{Touched, Apart, Stored, Ored}

-- ---- programs in turn

module _ {Op : Type 0} {Reply : Op → Type 0} {S : Type 0} (does : (o : Op) → S → Reply o × S) where
  -- a step that is done, and the rest from there
  pub done_then : (g k : Prog Op Reply ℕ) (s : S) → (run does g s).0 ≡ 0
      → run does (and_then g k) s ≡ run does k (run does g s).1
  done_then g k s e =
      sym (then_done does g k s (run does g s).0 (run does g s).1 true _ refl (sym (eq-eqb _ 0 e)) refl refl)

  pub goes_on : (g k : Prog Op Reply ℕ) (s t : S) → run does g s ≡ (0, t) → run does (and_then g k) s ≡ run does k t
  goes_on g k s t e = done_then g k s (ap (λ (r : ℕ × S). r.0) e) ∙ ap (λ (r : ℕ × S). run does k r.1) e

  -- steps in turn, each done, that leave the state as it is
  pub each_still : (g : ℕ → Prog Op Reply ℕ) (s : S) (n p : ℕ) → ((q : ℕ) → p ≤ q → q < p + n → run does (g q) s ≡ (0, s))
      → run does (each g n p) s ≡ (0, s)
  unfolding run each
  each_still g s zero p e = refl
  each_still g s (suc n) p e =
      goes_on (g p) (each g n (p + 1)) s s (e p (omega arith) (omega arith))
      ∙ each_still g s n (p + 1) (λ q h k. e q (omega arith) (omega arith))

-- ---- one page, and the next

pub touched? : (a n q : ℕ) → Touched a n q ⊎ Apart a n q
touched? a n q = elim (ℕ_discrete n 0) [
  | yes e ↦ inr (inr (inr e))
  | no k ↦ elim (dec_lt a ((q + 1) * page_size)) [
    | yes h ↦ elim (dec_lt (q * page_size) (a + n)) [
      | yes b ↦ inl (record { some = omega arith; above = h; below = b })
      | no b ↦ inr (inr (inl (omega arith)))
    ]
    | no h ↦ inr (inl (omega arith))
  ]
]

-- where it has none, the page ends before the bytes begin or begins where they have ended
none_there : (a n q : ℕ) → Apart a n q → min (a + n) ((q + 1) * page_size) ≤ max a (q * page_size)
none_there a n q (inl h) = omega arith
none_there a n q (inr (inl h)) = omega arith
none_there a n q (inr (inr h)) = omega arith

pub dirty_twice : (f : ℕ) → bit_or (bit_or f dirty) dirty ≡ bit_or f dirty
dirty_twice f = omega (arith, or_add_and (bit_or f dirty) dirty, dirty-set f)

module _ (flag : ℕ → ℕ) (p f q : ℕ) where
  pub at-one-same : q ≡ p → memory.at_one flag p f q ≡ f
  unfolding memory.at_one
  at-one-same e = rw (eq-eqb q p e)

  pub at-one-other : q ≢ p → memory.at_one flag p f q ≡ flag q
  unfolding memory.at_one
  at-one-other n = rw (ne_eqb q p n)

module _ (byte : ℕ → ℕ) (a : ℕ) (bytes : List ℕ) where
  placed_in : (i : ℕ) → i < length bytes → memory.placed byte a bytes (a + i) ≡ get_or bytes i 0
  unfolding memory.placed
  placed_in i h =
      let e : a + i - a ≡ i = omega arith in
      rw (le-ltb (a + i) a (omega arith), lt-ltb (a + i) (a + length bytes) (omega arith), e)

  placed-out : (x : ℕ) → (x < a) ⊎ (a + length bytes ≤ x) → memory.placed byte a bytes x ≡ byte x
  unfolding memory.placed
  placed-out x (inl h) = rw (lt-ltb x a h)
  placed-out x (inr h) = rw (le-ltb x a (omega arith), le-ltb x (a + length bytes) h)

-- no bytes
pub stored_none : (v : memory.View) (a : ℕ) (bytes : List ℕ) → length bytes ≡ 0 → Stored v a bytes (0, v)
stored_none v a bytes e =
    record {
      done = refl;
      size = refl;
      reservation = refl;
      byte_inside = λ i h. absurd (omega arith);
      byte_out = λ x h. refl;
      flag_inside = λ q t. absurd (omega (arith, t.some));
      flag_out = λ q t. refl;
    }

-- bytes of one page
stored_one : (v : memory.View) (a : ℕ) (bytes : List ℕ) → 0 < length bytes → a % page_size + length bytes ≤ page_size
    → Stored v a bytes (0, memory.stored v a bytes)
stored_one v a bytes k h =
    record {
      done = refl;
      size = refl;
      reservation = refl;
      byte_inside = placed_in v.byte a bytes;
      byte_out = placed-out v.byte a bytes;
      flag_inside = λ q t.
          let e : q ≡ a / page_size = omega (arith, t.above, t.below) in
          at-one-same v.flag (a / page_size) _ q e ∙ ap (λ (p : ℕ). bit_or (v.flag p) dirty) (sym e);
      flag_out = λ q t. at-one-other v.flag (a / page_size) _ q (other q t);
    }
  where
    other : (q : ℕ) → Apart a (length bytes) q → q ≢ a / page_size
    other q (inl t) = omega arith
    other q (inr (inl t)) = omega arith
    other q (inr (inr t)) = omega arith

-- bytes, and more of them where they end
module _ (v : memory.View) (a : ℕ) (xs ys : List ℕ) (r t : ℕ × memory.View) (s : Stored v a xs r)
    (u : Stored r.1 (a + length xs) ys t) where
  bytes_next : (i : ℕ) → i < length (xs ++ ys) → t.1.byte (a + i) ≡ get_or (xs ++ ys) i 0
  bytes_next i h = elim (dec_lt i (length xs)) [
    | yes k ↦ u.byte_out (a + i) (inl (omega arith)) ∙ s.byte_inside i k ∙ sym (get_or-append xs ys 0 i k)
    | no k ↦
        let e : i ≡ length xs + (i - length xs) = omega arith in
        let f : a + i ≡ a + length xs + (i - length xs) = omega arith in
        ap t.1.byte f ∙ u.byte_inside (i - length xs) (omega (arith, length-append xs ys))
        ∙ sym (ap (λ (j : ℕ). get_or (xs ++ ys) j 0) e ∙ get_or-append-add xs ys (i - length xs) 0)
  ]

  bytes-around : (x : ℕ) → (x < a) ⊎ (a + length (xs ++ ys) ≤ x) → t.1.byte x ≡ v.byte x
  bytes-around x (inl h) = u.byte_out x (inl (omega arith)) ∙ s.byte_out x (inl h)
  bytes-around x (inr h) =
      let e = length-append xs ys in
      u.byte_out x (inr (omega arith)) ∙ s.byte_out x (inr (omega arith))

  flags-next : (q : ℕ) → Touched a (length (xs ++ ys)) q → t.1.flag q ≡ bit_or (v.flag q) dirty
  flags-next q k = go (touched? a (length xs) q) (touched? (a + length xs) (length ys) q)
    where
      go : Touched a (length xs) q ⊎ Apart a (length xs) q → Touched (a + length xs) (length ys) q ⊎ Apart (a + length xs) (length ys) q
          → t.1.flag q ≡ bit_or (v.flag q) dirty
      go (inl x) (inl y) =
          u.flag_inside q y ∙ ap (λ (f : ℕ). bit_or f dirty) (s.flag_inside q x) ∙ dirty_twice (v.flag q)
      go (inl x) (inr y) = u.flag_out q y ∙ s.flag_inside q x
      go (inr x) (inl y) = u.flag_inside q y ∙ ap (λ (f : ℕ). bit_or f dirty) (s.flag_out q x)
      go (inr x) (inr y) =
          absurd
          (omega (arith, none_there a (length xs) q x, none_there (a + length xs) (length ys) q y, length-append xs ys, k.some, k.above, k.below))

  flags-around : (q : ℕ) → Apart a (length (xs ++ ys)) q → t.1.flag q ≡ v.flag q
  flags-around q k = u.flag_out q (second k) ∙ s.flag_out q (first k)
    where
      first : Apart a (length (xs ++ ys)) q → Apart a (length xs) q
      first (inl h) = inl h
      first (inr (inl h)) = inr (inl (omega (arith, length-append xs ys)))
      first (inr (inr h)) = inr (inr (omega (arith, length-append xs ys)))

      second : Apart a (length (xs ++ ys)) q → Apart (a + length xs) (length ys) q
      second (inl h) = inl (omega arith)
      second (inr (inl h)) = inr (inl (omega (arith, length-append xs ys)))
      second (inr (inr h)) = inr (inr (omega (arith, length-append xs ys)))

  pub stored_next : Stored v a (xs ++ ys) t
  stored_next =
      record {
        done = u.done;
        size = u.size ∙ s.size;
        reservation = u.reservation ∙ s.reservation;
        byte_inside = bytes_next;
        byte_out = bytes-around;
        flag_inside = flags-next;
        flag_out = flags-around;
      }

-- one after the other
pub stores_then : (v : memory.View) (a : ℕ) (xs ys : List ℕ) (g k : Call ℕ) → Stored v a xs (run memory.does_v g v)
    → Stored (run memory.does_v g v).1 (a + length xs) ys (run memory.does_v k (run memory.does_v g v).1)
    → Stored v a (xs ++ ys) (run memory.does_v (and_then g k) v)
stores_then v a xs ys g k s u =
    subst⁻¹ (Stored v a (xs ++ ys)) (done_then memory.does_v g k v s.done)
    (stored_next v a xs ys (run memory.does_v g v) (run memory.does_v k (run memory.does_v g v).1) s u)

-- ---- the whole store

-- of bytes from a on, those on its page
page-stored : (v : memory.View) (a : ℕ) (bytes : List ℕ) → v.size % page_size ≡ 0 → a + length bytes ≤ v.size → 0 < length bytes
    → Stored v a (take (in_page a (length bytes)) bytes) (run memory.does_v (perform (part! a bytes)) v)
unfolding run
page-stored v a bytes whole fits some =
    rw (lt-ltb (a / page_size) (v.size / page_size) (omega arith))
    (stored_one v a (take (in_page a (length bytes)) bytes) (rw length-take (omega arith)) (rw length-take (omega arith)))

-- as many pages as bytes are enough
over_stored : (pages : ℕ) (v : memory.View) (a : ℕ) (bytes : List ℕ) → length bytes ≤ pages → v.size % page_size ≡ 0
    → a + length bytes ≤ v.size → Stored v a bytes (run memory.does_v (sparse.store_over pages a bytes) v)
unfolding run sparse.store_over
over_stored zero v a bytes few whole fits = stored_none v a bytes (omega arith)
over_stored (suc pages) v a bytes few whole fits =
    cases (λ g. Stored v a bytes (run memory.does_v g v)) (eqb (length bytes) 0) _ _
    (λ e. stored_none v a bytes (eqb-true _ _ e))
    (λ e.
    let some : length bytes ≢ 0 = eqb-false _ _ e in
    let n : ℕ = in_page a (length bytes) in
    let h : length (take n bytes) ≡ n = length-take n bytes ∙ omega arith in
    let s : Stored v a (take n bytes) (run memory.does_v (perform (part! a bytes)) v) = page-stored v a bytes whole fits (omega arith) in
    let w : memory.View = (run memory.does_v (perform (part! a bytes)) v).1 in
    let z : w.size ≡ v.size = s.size in
    let u : Stored w (a + n) (drop n bytes) (run memory.does_v (sparse.store_over pages (a + n) (drop n bytes)) w) =
    over_stored pages w (a + n) (drop n bytes) (omega (arith, length-drop n bytes)) (rw z whole) (omega (arith, length-drop n bytes)) in
    subst (λ (l : List ℕ). Stored v a l (run memory.does_v (and_then (perform (part! a bytes)) (sparse.store_over pages (a + n) (drop n bytes))) v))
    (take-append-drop n bytes)
    (stores_then v a (take n bytes) (drop n bytes) (perform (part! a bytes)) (sparse.store_over pages (a + n) (drop n bytes)) s
    (rw h u)))

pub store_stored : (v : memory.View) (a : ℕ) (bytes : List ℕ) → v.size % page_size ≡ 0 → a + length bytes ≤ v.size
    → Stored v a bytes (run memory.does_v (sparse.store a bytes) v)
unfolding sparse.store
store_stored v a bytes whole fits = over_stored (length bytes) v a bytes (omega arith) whole fits

-- ---- a W^X store

-- a page that is there and whose W^X bit is 0
permit-writable : (v : memory.View) (q : ℕ) → q < v.size / page_size → bit_and (v.flag q) wxorx_bit ≡ 0
    → run memory.does_v (sparse.permit writable q) v ≡ (0, v)
unfolding run sparse.permit
permit-writable v q h e =
    let x : cond (ltb q (v.size / page_size)) (valued (v.flag q)) (no_value 2) ≡ valued (v.flag q) = rw (lt-ltb _ _ h) in
    ap (λ (f : Valued). run memory.does_v (onwards (λ n. n) (ret (cond (eqb (bit_and f.value wxorx_bit) 0) 0 4)) f.number) v) x
    ∙ rw (eq-eqb _ 0 e)

permitted-writable : (v : memory.View) (a n : ℕ) → v.size ≤ maximum → v.size % page_size ≡ 0 → a + n ≤ v.size → 0 < n
    → ((q : ℕ) → Touched a n q → bit_and (v.flag q) wxorx_bit ≡ 0) → run memory.does_v (wxorx.permitted writable a n) v ≡ (0, v)
unfolding wxorx.permitted sparse.permits
permitted-writable v a n small whole fits some free =
    rw (← (indices-are maximum a n (a + n) some refl (omega arith)))
    (each_still memory.does_v (sparse.permit writable) v _ _
    (λ q h k.
    permit-writable v q (omega arith) (free q (record { some = some; above = omega arith; below = omega arith }))))

pub wx_stored : (v : memory.View) (a : ℕ) (bytes : List ℕ) → v.size % page_size ≡ 0 → v.size ≤ maximum → a + length bytes ≤ v.size
    → ((q : ℕ) → Touched a (length bytes) q → bit_and (v.flag q) wxorx_bit ≡ 0)
    → Stored v a bytes (run memory.does_v (wxorx.store_bytes a bytes) v)
unfolding run wxorx.store_bytes fitting
wx_stored v a bytes whole small fits free =
    cases (λ g. Stored v a bytes (run memory.does_v g v)) (eqb (length bytes) 0) _ _
    (λ e. stored_none v a bytes (eqb-true _ _ e))
    (λ e.
    let k : length bytes ≢ 0 = eqb-false _ _ e in
    let p = permitted-writable v a (length bytes) small whole fits (omega arith) free in
    subst⁻¹ (Stored v a bytes)
    (goes_on memory.does_v (wxorx.permitted writable a (length bytes)) (sparse.store a bytes) v v p)
    (store_stored v a bytes whole fits))

-- ---- flags set on pages in turn

-- a page that is neither a first one nor one of the n others after it
module _ (first n q : ℕ) where
  pub off_others : (q < first) ⊎ (first + suc n ≤ q) → (q < first + 1) ⊎ (first + 1 + n ≤ q)
  off_others (inl h) = inl (omega arith)
  off_others (inr h) = inr (omega arith)

  pub off_first : (q < first) ⊎ (first + suc n ≤ q) → q ≢ first
  off_first (inl h) = omega arith
  off_first (inr h) = omega arith

-- on no page, and on one more before the others
ored_none : (v : memory.View) (first f : ℕ) → Ored v first 0 f (0, v)
ored_none v first f =
    record {
      done = refl;
      size = refl;
      reservation = refl;
      byte = λ x. refl;
      flag_inside = λ q h k. absurd (omega arith);
      flag_out = λ q h. refl;
    }

ored_more : (v : memory.View) (first n f : ℕ) (r : ℕ × memory.View)
    → Ored (memory.flagged v first (bit_or (v.flag first) f)) (first + 1) n f r → Ored v first (suc n) f r
ored_more v first n f r u =
    record {
      done = u.done;
      size = u.size;
      reservation = u.reservation;
      byte = u.byte;
      flag_inside = λ q h k. elim (ℕ_discrete q first) [
        | yes e ↦ u.flag_out q (inl (omega arith)) ∙ at-one-same v.flag first _ q e ∙ ap (λ (p : ℕ). bit_or (v.flag p) f) (sym e)
        | no e ↦ u.flag_inside q (omega arith) (omega arith) ∙ ap (λ (x : ℕ). bit_or x f) (at-one-other v.flag first _ q e)
      ];
      flag_out = λ q h. u.flag_out q (off_others first n q h) ∙ at-one-other v.flag first _ q (off_first first n q h);
    }

-- a page that is there
flag-set : (v : memory.View) (p f : ℕ) → p < v.size / page_size
    → run memory.does_v (sparse.set_flag p f) v ≡ (0, memory.flagged v p (bit_or (v.flag p) f))
unfolding run sparse.set_flag fitting
flag-set v p f h = rw (lt-ltb _ _ h)

ored_each : (n : ℕ) (v : memory.View) (first f : ℕ) → first + n ≤ v.size / page_size
    → Ored v first n f (run memory.does_v (each (λ p. sparse.set_flag p f) n first) v)
unfolding run each
ored_each zero v first f h = ored_none v first f
ored_each (suc n) v first f h =
    let w : memory.View = memory.flagged v first (bit_or (v.flag first) f) in
    let e : run memory.does_v (sparse.set_flag first f) v ≡ (0, w) = flag-set v first f (omega arith) in
    let rest : Call ℕ = each (λ p. sparse.set_flag p f) n (first + 1) in
    subst⁻¹ (Ored v first (suc n) f)
    (goes_on memory.does_v (sparse.set_flag first f) rest v w e)
    (ored_more v first n f (run memory.does_v rest w) (ored_each n w (first + 1) f (omega arith)))

pub flags_ored : (v : memory.View) (first n f : ℕ) → first + n ≤ v.size / page_size
    → Ored v first n f (run memory.does_v (set_flags first n f) v)
unfolding set_flags
flags_ored v first n f h = ored_each n v first f h
