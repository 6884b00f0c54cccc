-- The fill: three stores in turn.
use Rattle.std.proofs.Common.{◌≡◌, ℕ, ◌+◌, ◌-◌, ◌*◌, ◌/◌, ◌%◌, min, Bool, true, false, eqb, List, length, take, refl, sym, ◌∙◌, arith, take_all}
use native.Mathlib.Decide.{dec_le}
use Rattle.bits.specs.Rounding.{page_size}
use Rattle.words.specs.Bytes.{filled}
use Rattle.program.specs.Program.{run}
use Rattle.program.proofs.Laws.{then_done, then_stop}
use Rattle.memory.specs.Storage.{State}
use Rattle.memory.specs.Operations.{does}
use Rattle.memory.specs.Sparse.{store, fill_rest, fill}
use Rattle.memory.specs.Inner.{At}
use Rattle.outcome.specs.Numbers.{refusal_number}
use Rattle.outcome.specs.declared.Refusal.{Refusal}
use Rattle.memory.proofs.Refused.{refused}
use Rattle.memory.proofs.Store.{store_at}

-- no more than there are
pub take-least : (l : List ℕ) (room n : ℕ) → n ≡ min room (length l) → take n l ≡ take room l
take-least l room n h = elim (dec_le (length l) room) [
  | yes k ↦ take_all n l (omega arith) ∙ sym (take_all room l k)
  | no k ↦ let z : n ≡ room = omega arith in rw z
]

-- a store that answered k and left t, and what is done then
module _ (s t : State) (k : ℕ) (d : Bool) (i : d ≡ eqb k 0) (a : ℕ) where
  -- the source from `front` bytes past a on: at the place of its first byte
  module _ (front left : ℕ) (source : List ℕ) (page at : ℕ) (place : At page at (a + front))
      (e : (k, t) ≡ run does (store (page * page_size + at) source) s) where
    e' : (k, t) ≡ run does (store (a + front) source) s
    e' = e ∙ rw place.same

    pub rest-stop : d ≡ false → (k, t) ≡ run does (fill_rest a front left source) s
    unfolding fill_rest
    rest-stop c = then_stop does (store (a + front) source) _ s k t d e' i c

    pub rest-done : d ≡ true → (past from : ℕ) → At past from (a + (front + length source)) → (r : ℕ × State)
        → r ≡ run does (store (past * page_size + from) (filled (left - length source) 0)) t
        → r ≡ run does (fill_rest a front left source) s
    unfolding fill_rest
    rest-done c past from end r q =
        let z : past * page_size + from ≡ a + front + length source = end.same ∙ omega arith in
        then_done does (store (a + front) source) _ s k t d r e' i c (q ∙ rw z)

  -- the lead
  module _ (size lead front : ℕ) (source : List ℕ) (cut : front ≡ min size lead)
      (e : (k, t) ≡ run does (store (a / page_size * page_size + a % page_size) (filled front 0)) s) where
    lead' : (k, t) ≡ run does (store a (filled (min size lead) 0)) s
    lead' = store_at s a (filled front 0) (k, t) e ∙ rw cut

    pub data_stop : d ≡ false → (k, t) ≡ run does (fill a size lead source) s
    unfolding fill
    data_stop c = then_stop does (store a (filled (min size lead) 0)) _ s k t d lead' i c

    pub data_done : d ≡ true → (n : ℕ) → n ≡ min (size - front) (length source) → (r : ℕ × State)
        → r ≡ run does (fill_rest a front (size - front) (take n source)) t
        → r ≡ run does (fill a size lead source) s
    unfolding fill
    data_done c n h r q =
        then_done does (store a (filled (min size lead) 0)) _ s k t d r lead' i c (q ∙ rw (take-least source (size - front) n h, cut))

-- the same by what a store answered: a refusal, or that it is done
module _ (s t : State) (a front left : ℕ) (source : List ℕ) (page at : ℕ) (place : At page at (a + front)) where
  pub rest-err : (x : Refusal) → (refusal_number x, t) ≡ run does (store (page * page_size + at) source) s
      → (refusal_number x, t) ≡ run does (fill_rest a front left source) s
  rest-err x e = rest-stop s t (refusal_number x) false (refused x) a front left source page at place e refl

  pub rest-ok : (0, t) ≡ run does (store (page * page_size + at) source) s → (past from : ℕ) → At past from (a + (front + length source))
      → (r : ℕ × State) → r ≡ run does (store (past * page_size + from) (filled (left - length source) 0)) t
      → r ≡ run does (fill_rest a front left source) s
  rest-ok e past from end r q = rest-done s t 0 true refl a front left source page at place e refl past from end r q

module _ (s t : State) (a size lead front : ℕ) (source : List ℕ) (page at : ℕ) (cut : front ≡ min size lead) (place : At page at (a + 0)) where
  its-lead : (k : ℕ) → (k, t) ≡ run does (store (page * page_size + at) (filled front 0)) s
      → (k, t) ≡ run does (store (a / page_size * page_size + a % page_size) (filled front 0)) s
  its-lead k e = let z : page * page_size + at ≡ a / page_size * page_size + a % page_size = place.same ∙ omega arith in e ∙ rw z

  pub data-err : (x : Refusal) → (refusal_number x, t) ≡ run does (store (page * page_size + at) (filled front 0)) s
      → (refusal_number x, t) ≡ run does (fill a size lead source) s
  data-err x e = data_stop s t (refusal_number x) false (refused x) a size lead front source cut (its-lead _ e) refl

  pub data-ok : (0, t) ≡ run does (store (page * page_size + at) (filled front 0)) s → (n : ℕ) → n ≡ min (size - front) (length source)
      → (r : ℕ × State) → r ≡ run does (fill_rest a front (size - front) (take n source)) t
      → r ≡ run does (fill a size lead source) s
  data-ok e n h r q = data_done s t 0 true refl a size lead front source cut (its-lead _ e) refl n h r q
