-- What a caller sees: every operation is the same on the view, so every program and every call is, and two memories that look
-- alike answer alike.
use Rattle.std.proofs.Common.{◌≡◌, ℕ, ◌+◌, ◌/◌, ◌%◌, ◌<◌, ◌≤◌, Bool, true, false, cond, eqb, ltb, ◌≢◌, List, [], ◌∷◌, length, get_or, set, sym, refl, ap, ◌∙◌, ap₂, arith, length-take, get_or-set_other, get_or-set_same, ltb-true, le-ltb, lt-ltb, eqb-true}
use mathlib.Core.Path.{fun_ext}
use lib.Bits.{bit_or, bit_and}
use borrow.Author.Tests.{eqb-false}
use Rattle.bits.specs.Rounding.{page_size}
use Rattle.words.specs.Bytes.{filled}
use Rattle.words.proofs.Filled.{filled_zero}
use Rattle.program.specs.Program.{run}
use Rattle.program.proofs.Like.{Like, commutes, alike}
use Rattle.program.proofs.Keeps.{kept}
use Rattle.memory.specs.Pages.{dirty}
use Rattle.memory.specs.Storage.{State, absent, state_of, slot_in, byte_at, take_slot, write_page, or_flag, and_flag, no_reservation, fresh_memory, fits_lengths, fresh}
use Rattle.memory.specs.Operations.{Op, lengths?, size?, lr?, flag?, meet?, byte?, bytes?, part!, or!, lr!, does, Call}
use Rattle.memory.specs.Sparse.{Output, clear_flag}
use Rattle.memory.specs.View.{WellFormed, Whole, View, view, at_one, flagged, stored, on_page, does_v, clear_flag_v}
use Rattle.memory.specs.Calls.{Named, program, Given, named, clear_flag_call, answer, told, answers, leaves}
use Rattle.memory.proofs.StoreCases.{cases, PageStored, past, full, wild, took, had, page-stored}
use Rattle.memory.proofs.WellFormed.{slot_there, take-formed, op_whole, flag-whole, given_whole, take-lengths, fresh_slot, fresh-done}
use Rattle.memory.proofs.Placed.{byte-absent, take-byte, write_placed}
use Rattle.memory.proofs.Dirty.{or_dirty, cleared-dirty}
use Rattle.memory.proofs.Replies.{lengths_reply, flag-reply, meet-reply, slot_left}

-- a list with another element, as a function of the index
set_at_one : (l : List ℕ) (p v : ℕ) → p < length l → (λ (q : ℕ). get_or (set l p v) q 0) ≡ at_one (λ (q : ℕ). get_or l q 0) p v
unfolding at_one
set_at_one l p v h =
    fun_ext λ q.
    cases (λ (x : ℕ). get_or (set l p v) q 0 ≡ x) (eqb q p) _ _
    (λ e. ap (λ (k : ℕ). get_or (set l p v) k 0) (eqb-true q p e) ∙ get_or-set_same l p v 0 h)
    (λ e. get_or-set_other l p q v 0 (eqb-false q p e))

-- ---- one page

-- a flag changed
pub flag-seen : (s : State) → WellFormed s → (p f : ℕ) → p < s.memory.size / page_size
    → view (state_of s.slots (set s.flags p f) s.area s.memory) ≡ flagged (view s) p f
flag-seen s w p f h =
    ap (λ (g : ℕ → ℕ). record { byte = byte_at s; flag = g; size = s.memory.size; reservation = s.memory.reservation })
    (set_at_one s.flags p f (omega (arith, w.fit.flags_are)))

-- bytes written
write_seen : (s : State) → WellFormed s → (a : ℕ) (bytes : List ℕ) → a / page_size < s.memory.size / page_size
    → slot_in s.slots (a / page_size) ≢ absent → a % page_size + length bytes ≤ page_size
    → view (write_page s (a / page_size) (a % page_size) bytes) ≡ stored (view s) a bytes
unfolding write_page
write_seen s w a bytes h n f = λ i.
    record {
      byte = write_placed s w a bytes n f i;
      flag = set_at_one s.flags (a / page_size) (bit_or (get_or s.flags (a / page_size) 0) dirty) (omega (arith, w.fit.flags_are)) i;
      size = s.memory.size;
      reservation = s.memory.reservation;
    }

-- a slot taken: nothing is seen of it
take-seen : (s : State) → WellFormed s → (p : ℕ) → p < s.memory.size / page_size → slot_in s.slots p ≡ absent
    → s.memory.used < length s.area / page_size → view (take_slot s p) ≡ view s
unfolding take_slot
take-seen s w p h e k = λ i.
    record {
      byte = fun_ext (take-byte s w p h e k) i;
      flag = λ q. get_or s.flags q 0;
      size = s.memory.size;
      reservation = s.memory.reservation;
    }

-- ---- every operation

looks : {A : Type 0} (s : State) → Whole s → (x y : A) → x ≡ y → Like Whole view (x, s) (y, view s)
looks s w x y e = record { out = e; good = w; seen = refl }

part-like : (s : State) (w : Whole s) (a : ℕ) (bytes : List ℕ) → a % page_size + length bytes ≤ page_size
    → (r : ℕ × State) → PageStored s (a / page_size) (a % page_size) bytes r → Whole r.1
    → Like Whole view r (on_page (view s) (a / page_size) (stored (view s) a bytes))
part-like s w a bytes f r (past h) g = rw (le-ltb _ _ h) (looks s w 2 2 refl)
part-like s w a bytes f r (full h e k) g = absurd (omega (arith, slot_left s w.formed w.roomy (a / page_size) h e))
part-like s w a bytes f r (wild h n k) g = absurd (omega (arith, w.formed.held (a / page_size) n))
part-like s w a bytes f r (took h e k) g =
    let p : ℕ = a / page_size in
    let t : State = take_slot s p in
    let wt : WellFormed t = take-formed s w.formed p h e k in
    let ht : p < t.memory.size / page_size = rw (take-lengths s p).size h in
    rw (lt-ltb _ _ h)
    (record {
      out = refl;
      good = g;
      seen =
          write_seen t wt a bytes ht (slot_there s w.formed p h e k) f
          ∙ ap (λ (v : View). stored v a bytes) (take-seen s w.formed p h e k);
    })
part-like s w a bytes f r (had h n k) g =
    rw (lt-ltb _ _ h) (record { out = refl; good = g; seen = write_seen s w.formed a bytes h n f })

-- one page's flag
flag-like : (s : State) → Whole s → (p f : ℕ) → Like Whole view {A = ℕ}
    (cond (ltb p (length s.flags)) (0, state_of s.slots (set s.flags p f) s.area s.memory) (2, s))
    (on_page (view s) p (flagged (view s) p f))
flag-like s w p f = rw w.formed.fit.flags_are (go (ltb p (s.memory.size / page_size)) refl)
  where
    go : (b : Bool) → ltb p (s.memory.size / page_size) ≡ b → Like Whole view {A = ℕ}
        (cond b (0, state_of s.slots (set s.flags p f) s.area s.memory) (2, s))
        (cond b (0, flagged (view s) p f) (2, view s))
    go true e =
        record { out = refl; good = flag-whole s p f w; seen = flag-seen s w.formed p f (ltb-true _ _ e) }
    go false e = looks s w 2 2 refl

pub like : (o : Op) (s : State) → Whole s → Like Whole view (does o s) (does_v o (view s))
unfolding or_flag
like lengths? s w = looks s w _ _ (lengths_reply s w.formed)
like size? s w = looks s w _ _ refl
like lr? s w = looks s w _ _ refl
like (flag? p) s w = looks s w _ _ (flag-reply s w.formed p)
like (meet? p) s w = looks s w _ _ (meet-reply s w.formed p)
like (byte? a) s w = looks s w _ _ refl
like (bytes? a n) s w = looks s w _ _ refl
like (part! a bytes) s w =
    part-like s w a _ (rw length-take (omega arith)) _ (page-stored s _ _ _) (op_whole (part! a bytes) s w)
like (or! p f) s w = flag-like s w p _
like (lr! x) s w = record { out = refl; good = op_whole (lr! x) s w; seen = refl }

-- ---- every program, and every call

pub program-seen : {A : Type 0} (g : Call A) (s : State) → Whole s → Like Whole view (run does g s) (run does_v g (view s))
program-seen g s w = commutes Whole view does does_v like g s w

pub seen : (c : Named) (s : State) → Whole s → Like Whole view (run does (program c) s) (run does_v (program c) (view s))
seen c s w = program-seen (program c) s w

pub clear_seen : (p f : ℕ) (s : State) → Whole s → Like Whole view (clear_flag p f s) (clear_flag_v p f (view s))
unfolding clear_flag and_flag
clear_seen p f s w = rw (lengths_reply s w.formed) (flag-like s w p _)

-- ---- memories that look alike

pub programs_alike : {A : Type 0} (g : Call A) (s t : State) → Whole s → Whole t → view s ≡ view t
    → ((run does g s).0 ≡ (run does g t).0) × (view (run does g s).1 ≡ view (run does g t).1)
programs_alike g s t ws wt e = alike Whole view does does_v like g s t ws wt e

pub equal_answers : (c : Named) (s t : State) → Whole s → Whole t → view s ≡ view t
    → ((run does (program c) s).0 ≡ (run does (program c) t).0)
    × (view (run does (program c) s).1 ≡ view (run does (program c) t).1)
equal_answers c s t ws wt e = programs_alike (program c) s t ws wt e

pub equal_clear : (p f : ℕ) (s t : State) → Whole s → Whole t → view s ≡ view t
    → ((clear_flag p f s).0 ≡ (clear_flag p f t).0) × (view (clear_flag p f s).1 ≡ view (clear_flag p f t).1)
equal_clear p f s t ws wt e =
    let l = clear_seen p f s ws in
    let r = clear_seen p f t wt in
    let q : clear_flag_v p f (view s) ≡ clear_flag_v p f (view t) = ap (clear_flag_v p f) e in (
      l.out ∙ ap (λ (x : ℕ × View). x.0) q ∙ sym r.out,
      l.seen ∙ ap (λ (x : ℕ × View). x.1) q ∙ sym r.seen,
    )

-- calls in turn
pub equal_given : (g : Given) (s t : State) → Whole s → Whole t → view s ≡ view t
    → ((answer g s).0 ≡ (answer g t).0) × (view (answer g s).1 ≡ view (answer g t).1)
equal_given (named c) s t ws wt e = equal_answers c s t ws wt e
equal_given (clear_flag_call p f) s t ws wt e = equal_clear p f s t ws wt e

pub equal_calls : (gs : List Given) (s t : State) → Whole s → Whole t → view s ≡ view t
    → (answers gs s ≡ answers gs t) × (view (leaves gs s) ≡ view (leaves gs t))
unfolding answers leaves
equal_calls [] s t ws wt e = (refl, e)
equal_calls (g ∷ gs) s t ws wt e =
    let h = equal_given g s t ws wt e in
    let r = equal_calls gs _ _ (given_whole g s ws) (given_whole g t wt) h.1 in
    (ap₂ {C = List Output} (λ x l. told g x ∷ l) h.0 r.0, r.1)

-- ---- no operation changes the size

pub op_size_seen : (o : Op) (v : View) → (does_v o v).1.size ≡ v.size
op_size_seen lengths? v = refl
op_size_seen size? v = refl
op_size_seen lr? v = refl
op_size_seen (flag? p) v = refl
op_size_seen (meet? p) v = refl
op_size_seen (byte? a) v = refl
op_size_seen (bytes? a n) v = refl
op_size_seen (part! a bytes) v =
    cases (λ (r : ℕ × View). r.1.size ≡ v.size) (ltb (a / page_size) (v.size / page_size)) _ _ (λ e. refl) (λ e. refl)
op_size_seen (or! p f) v =
    cases (λ (r : ℕ × View). r.1.size ≡ v.size) (ltb p (v.size / page_size)) _ _ (λ e. refl) (λ e. refl)
op_size_seen (lr! x) v = refl

-- ---- no operation clears a dirty flag

-- f at p, of which no dirty flag is made clean
at_one_dirty : (flag : ℕ → ℕ) (p f : ℕ) → (bit_and f dirty ≡ 0 → bit_and (flag p) dirty ≡ 0)
    → (q : ℕ) → bit_and (at_one flag p f q) dirty ≡ 0 → bit_and (flag q) dirty ≡ 0
unfolding at_one
at_one_dirty flag p f h q =
    cases (λ (x : ℕ). bit_and x dirty ≡ 0 → bit_and (flag q) dirty ≡ 0) (eqb q p) _ _
    (λ e c. rw (eqb-true q p e) (h c))
    (λ e c. c)

on_page_dirty : (v : View) (p : ℕ) (w : View) → ((q : ℕ) → bit_and (w.flag q) dirty ≡ 0 → bit_and (v.flag q) dirty ≡ 0)
    → (q : ℕ) → bit_and ((on_page v p w).1.flag q) dirty ≡ 0 → bit_and (v.flag q) dirty ≡ 0
on_page_dirty v p w h q =
    cases (λ (r : ℕ × View). bit_and (r.1.flag q) dirty ≡ 0 → bit_and (v.flag q) dirty ≡ 0) (ltb p (v.size / page_size)) _ _
    (λ e. h q)
    (λ e c. c)

pub op_dirty : (o : Op) (v : View) (q : ℕ) → bit_and ((does_v o v).1.flag q) dirty ≡ 0 → bit_and (v.flag q) dirty ≡ 0
op_dirty lengths? v q c = c
op_dirty size? v q c = c
op_dirty lr? v q c = c
op_dirty (flag? p) v q c = c
op_dirty (meet? p) v q c = c
op_dirty (byte? a) v q c = c
op_dirty (bytes? a n) v q c = c
op_dirty (part! a bytes) v q c =
    on_page_dirty v _ _ (at_one_dirty v.flag _ _ (or_dirty (v.flag (a / page_size)) dirty)) q c
op_dirty (or! p f) v q c = on_page_dirty v _ _ (at_one_dirty v.flag _ _ (or_dirty (v.flag p) f)) q c
op_dirty (lr! x) v q c = c

pub program-dirty : {A : Type 0} (g : Call A) (v : View) (q : ℕ) → bit_and ((run does_v g v).1.flag q) dirty ≡ 0
    → bit_and (v.flag q) dirty ≡ 0
program-dirty g v q =
    kept does_v (λ u. bit_and (u.flag q) dirty ≡ 0 → bit_and (v.flag q) dirty ≡ 0) (λ o u h c. h (op_dirty o u q c)) g v (λ c. c)

-- nor does a direct clear of other bits
pub clear_dirty : (p f : ℕ) (v : View) → f < 256 → bit_and f dirty ≡ 0
    → (q : ℕ) → bit_and ((clear_flag_v p f v).1.flag q) dirty ≡ 0 → bit_and (v.flag q) dirty ≡ 0
clear_dirty p f v h n q c = on_page_dirty v _ _ (at_one_dirty v.flag _ _ (cleared-dirty (v.flag p) f h n)) q c

-- ---- a fresh memory

-- all bytes and all flags 0
abbrev pub blank : ℕ → View
blank size = record { byte = λ a. 0; flag = λ p. 0; size = size; reservation = no_reservation }

module _ (slots flags area : List ℕ) (size : ℕ)
    (fit : fits_lengths (length slots) (length flags) (length area) (fresh_memory size) ≡ true) where
  pub fresh-seen : view (fresh slots flags area size).1 ≡ blank size
  fresh-seen =
      rw (fresh-done slots flags area size fit)
      (λ i.
      record {
        byte = fun_ext (λ a. byte-absent (filled (length slots) absent) area a (fresh_slot (length slots) (a / page_size))) i;
        flag = fun_ext (filled_zero (length flags)) i;
        size = size;
        reservation = no_reservation;
      })
