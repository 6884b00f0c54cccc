-- Storage as our calls make it: a fresh memory is well formed, and every operation, every program and every call keeps it so.
-- No call changes a length or the memory's size.
use Rattle.std.proofs.Common.{◌≡◌, ℕ, zero, suc, ◌+◌, ◌*◌, ◌/◌, ◌<◌, ◌≤◌, Bool, true, false, cond, eqb, ltb, ◌≢◌, List, [], ◌∷◌, length, set, sym, refl, ◌∙◌, not-suc-le-zero, arith, length-set, get_or-set_other, get_or-set_same, eq-eqb, ne_eqb}
use native.Mathlib.Decide.{ℕ_discrete}
use Rattle.bits.specs.Rounding.{page_size}
use Rattle.words.specs.Bytes.{filled}
use Rattle.words.proofs.Written.{length-written}
use Rattle.words.proofs.Filled.{length-filled}
use Rattle.program.specs.Program.{run}
use Rattle.program.proofs.Keeps.{kept}
use Rattle.memory.specs.Storage.{State, Fitting, absent, state_of, slot_in, fits, fits_lengths, take_slot, write_page, or_flag, and_flag, fresh_memory, no_memory, fresh}
use Rattle.memory.specs.Operations.{Op, lengths?, size?, lr?, flag?, meet?, byte?, bytes?, part!, or!, lr!, does, Call}
use Rattle.memory.specs.Sparse.{clear_flag}
use Rattle.memory.specs.View.{present, WellFormed, Roomy, Whole}
use Rattle.memory.specs.Calls.{Named, program, Given, named, clear_flag_call, answer, leaves}
use Rattle.memory.proofs.Lengths.{fits-are}
use Rattle.memory.proofs.StoreCases.{cases, PageStored, past, full, wild, took, had, page-stored}

-- ---- lengths

-- t has the lengths and the size of s
pub record SameLengths (s t : State) : Type 0 where
  pub size : t.memory.size ≡ s.memory.size
  pub slots : length t.slots ≡ length s.slots
  pub flags : length t.flags ≡ length s.flags
  pub area : length t.area ≡ length s.area

pub lengths-same : (s : State) → SameLengths s s
lengths-same s = record { size = refl; slots = refl; flags = refl; area = refl }

pub lengths_then : (s t u : State) → SameLengths s t → SameLengths t u → SameLengths s u
lengths_then s t u a b =
    record {
      size = b.size ∙ a.size;
      slots = b.slots ∙ a.slots;
      flags = b.flags ∙ a.flags;
      area = b.area ∙ a.area;
    }

pub take-lengths : (s : State) (p : ℕ) → SameLengths s (take_slot s p)
unfolding take_slot
take-lengths s p =
    record {
      size = refl;
      slots = length-set s.slots p s.memory.used;
      flags = refl;
      area = length-written s.area (filled page_size 0) (s.memory.used * page_size);
    }

pub write_lengths : (s : State) (p at : ℕ) (bytes : List ℕ) → SameLengths s (write_page s p at bytes)
unfolding write_page
write_lengths s p at bytes =
    record {
      size = refl;
      slots = refl;
      flags = length-set s.flags p _;
      area = length-written s.area bytes (slot_in s.slots p * page_size + at);
    }

-- a flag's list with another flag
flag-lengths : (s : State) (p f : ℕ) → SameLengths s (state_of s.slots (set s.flags p f) s.area s.memory)
flag-lengths s p f = record { size = refl; slots = refl; flags = length-set s.flags p f; area = refl }

stored-lengths : (s : State) (p at : ℕ) (bytes : List ℕ) (r : ℕ × State) → PageStored s p at bytes r → SameLengths s r.1
stored-lengths s p at bytes r (past h) = lengths-same s
stored-lengths s p at bytes r (full h e k) = lengths-same s
stored-lengths s p at bytes r (wild h e k) = lengths-same s
stored-lengths s p at bytes r (took h e k) =
    lengths_then s (take_slot s p) _ (take-lengths s p) (write_lengths (take_slot s p) p at bytes)
stored-lengths s p at bytes r (had h e k) = write_lengths s p at bytes

pub op_lengths : (o : Op) (s : State) → SameLengths s (does o s).1
unfolding or_flag
op_lengths lengths? s = lengths-same s
op_lengths size? s = lengths-same s
op_lengths lr? s = lengths-same s
op_lengths (flag? p) s = lengths-same s
op_lengths (meet? p) s = lengths-same s
op_lengths (byte? a) s = lengths-same s
op_lengths (bytes? a n) s = lengths-same s
op_lengths (part! a bytes) s = stored-lengths s _ _ _ _ (page-stored s _ _ _)
op_lengths (or! p f) s =
    cases (λ (r : ℕ × State). SameLengths s r.1) (ltb p (length s.flags)) _ _ (λ e. flag-lengths s p _) (λ e. lengths-same s)
op_lengths (lr! x) s = record { size = refl; slots = refl; flags = refl; area = refl }

pub op_size : (o : Op) (s : State) → (does o s).1.memory.size ≡ s.memory.size
op_size o s = (op_lengths o s).size

pub op_slots_length : (o : Op) (s : State) → length (does o s).1.slots ≡ length s.slots
op_slots_length o s = (op_lengths o s).slots

pub op_flags_length : (o : Op) (s : State) → length (does o s).1.flags ≡ length s.flags
op_flags_length o s = (op_lengths o s).flags

pub op_area_length : (o : Op) (s : State) → length (does o s).1.area ≡ length s.area
op_area_length o s = (op_lengths o s).area

-- the same for every program, and for a flag cleared
pub program-lengths : {A : Type 0} (g : Call A) (s : State) → SameLengths s (run does g s).1
program-lengths g s = kept does (SameLengths s) (λ o t e. lengths_then s t _ e (op_lengths o t)) g s (lengths-same s)

pub clear_lengths : (p f : ℕ) (s : State) → SameLengths s (clear_flag p f s).1
unfolding clear_flag and_flag
clear_lengths p f s =
    cases P (fits s) _ _
    (λ t. cases P (ltb p (length s.flags)) _ _ (λ u. flag-lengths s p _) (λ u. lengths-same s))
    (λ t. lengths-same s)
  where
    P : ℕ × State → Type 0
    P r = SameLengths s r.1

-- a slot for every page stays a slot for every page
roomy-same : (s t : State) → SameLengths s t → Roomy s → Roomy t
roomy-same s t e r = rw (e.size, e.area) r

pub op_roomy : (o : Op) (s : State) → Roomy s → Roomy (does o s).1
op_roomy o s r = roomy-same s _ (op_lengths o s) r

-- right lengths stay right
fit_same : (s t : State) → SameLengths s t → t.memory.used ≤ length s.area / page_size
    → Fitting (length s.slots) (length s.flags) (length s.area) s.memory
    → Fitting (length t.slots) (length t.flags) (length t.area) t.memory
fit_same s t e u f =
    record {
      whole = rw e.size f.whole;
      small = rw e.size f.small;
      slots_are = rw (e.size, e.slots) f.slots_are;
      flags_are = rw (e.size, e.flags) f.flags_are;
      area_whole = rw e.area f.area_whole;
      area_small = rw e.area f.area_small;
      used_in = rw e.area u;
    }

-- ---- how many pages have a slot

present-set : (l : List ℕ) (p v : ℕ) → p < length l → slot_in l p ≡ absent → v ≢ absent → present (set l p v) ≡ suc (present l)
present-set [] p v h e n = absurd (not-suc-le-zero h)
present-set (x ∷ xs) zero v h e n = rw (eq-eqb x absent e, ne_eqb v absent n)
present-set (x ∷ xs) (suc p) v h e n = rw (present-set xs p v (omega arith) e n) (go (eqb x absent))
  where
    go : (b : Bool) → cond b (suc (present xs)) (suc (suc (present xs))) ≡ suc (cond b (present xs) (suc (present xs)))
    go true = refl
    go false = refl

present_le : (l : List ℕ) → present l ≤ length l
present_le [] = omega arith
present_le (x ∷ xs) =
    cases (λ (n : ℕ). n ≤ suc (length xs)) (eqb x absent) (present xs) (suc (present xs))
    (λ e. omega (arith, present_le xs))
    (λ e. omega (arith, present_le xs))

-- an absent page leaves one slot fewer than pages
pub present_lt : (l : List ℕ) (p : ℕ) → p < length l → slot_in l p ≡ absent → present l < length l
present_lt [] p h e = absurd (not-suc-le-zero h)
present_lt (x ∷ xs) zero h e = rw (eq-eqb x absent e) (omega (arith, present_le xs))
present_lt (x ∷ xs) (suc p) h e =
    cases (λ (n : ℕ). n < suc (length xs)) (eqb x absent) (present xs) (suc (present xs))
    (λ e'. omega (arith, present_le xs))
    (λ e'. omega (arith, present_lt xs p (omega arith) e))

-- ---- an absent page takes a slot

module _ (s : State) (w : WellFormed s) (p : ℕ) (inside : p < s.memory.size / page_size)
    (gone : slot_in s.slots p ≡ absent) (room : s.memory.used < length s.area / page_size) where
  below : s.memory.used < absent
  below = omega (arith, w.fit.area_small)

  pub slot_new : slot_in (take_slot s p).slots p ≡ s.memory.used
  unfolding take_slot
  slot_new = get_or-set_same s.slots p s.memory.used absent (omega (arith, w.fit.slots_are))

  pub slot_there : slot_in (take_slot s p).slots p ≢ absent
  slot_there = omega (arith, slot_new, below)

  pub slot_old : (q : ℕ) → q ≢ p → slot_in (take_slot s p).slots q ≡ slot_in s.slots q
  unfolding take_slot
  slot_old q n = get_or-set_other s.slots p q s.memory.used absent n

  take-held : (q : ℕ) → slot_in (take_slot s p).slots q ≢ absent → slot_in (take_slot s p).slots q < s.memory.used + 1
  take-held q n = elim (ℕ_discrete q p) [
    | yes e ↦ rw (e, slot_new) (omega arith)
    | no d ↦ omega (arith, slot_old q d, w.held q (omega (arith, slot_old q d)))
  ]

  take-apart : (q r : ℕ) → slot_in (take_slot s p).slots q ≢ absent → slot_in (take_slot s p).slots q ≡ slot_in (take_slot s p).slots r
      → q ≡ r
  take-apart q r n e = elim (ℕ_discrete q p) [
    | yes a ↦ elim (ℕ_discrete r p) [
      | yes b ↦ omega arith
      | no b ↦
          let u : slot_in s.slots r ≡ s.memory.used = sym (slot_old r b) ∙ sym e ∙ rw a slot_new in
          absurd (omega (arith, w.held r (omega (arith, below))))
    ]
    | no a ↦ elim (ℕ_discrete r p) [
      | yes b ↦
          let u : slot_in s.slots q ≡ s.memory.used = sym (slot_old q a) ∙ e ∙ rw b slot_new in
          absurd (omega (arith, w.held q (omega (arith, below))))
      | no b ↦ w.apart q r (omega (arith, slot_old q a)) (omega (arith, slot_old q a, slot_old r b))
    ]
  ]

  pub take-formed : WellFormed (take_slot s p)
  unfolding take_slot
  take-formed =
      record {
        fit = fit_same s (take_slot s p) (take-lengths s p) (omega arith) w.fit;
        held = take-held;
        apart = take-apart;
        counted =
            present-set s.slots p s.memory.used (omega (arith, w.fit.slots_are)) gone (omega (arith, below))
            ∙ omega (arith, w.counted);
      }

-- ---- every operation

-- the slot numbers and the count are the same
formed-same : (s t : State) → SameLengths s t → t.slots ≡ s.slots → t.memory.used ≡ s.memory.used → WellFormed s → WellFormed t
formed-same s t e l u w =
    record {
      fit = fit_same s t e (rw u w.fit.used_in) w.fit;
      held = rw (l, u) w.held;
      apart = rw l w.apart;
      counted = rw (l, u) w.counted;
    }

pub write_formed : (s : State) (p at : ℕ) (bytes : List ℕ) → WellFormed s → WellFormed (write_page s p at bytes)
unfolding write_page
write_formed s p at bytes w = formed-same s (write_page s p at bytes) (write_lengths s p at bytes) refl refl w

pub flag-formed : (s : State) (p f : ℕ) → WellFormed s → WellFormed (state_of s.slots (set s.flags p f) s.area s.memory)
flag-formed s p f w = formed-same s _ (flag-lengths s p f) refl refl w

pub flag-whole : (s : State) (p f : ℕ) → Whole s → Whole (state_of s.slots (set s.flags p f) s.area s.memory)
flag-whole s p f w = record { formed = flag-formed s p f w.formed; roomy = w.roomy }

stored-formed : (s : State) (p at : ℕ) (bytes : List ℕ) (r : ℕ × State) → PageStored s p at bytes r → WellFormed s → WellFormed r.1
stored-formed s p at bytes r (past h) w = w
stored-formed s p at bytes r (full h e k) w = w
stored-formed s p at bytes r (wild h e k) w = w
stored-formed s p at bytes r (took h e k) w = write_formed (take_slot s p) p at bytes (take-formed s w p h e k)
stored-formed s p at bytes r (had h e k) w = write_formed s p at bytes w

pub op_kept : (o : Op) (s : State) → WellFormed s → WellFormed (does o s).1
unfolding or_flag
op_kept lengths? s w = w
op_kept size? s w = w
op_kept lr? s w = w
op_kept (flag? p) s w = w
op_kept (meet? p) s w = w
op_kept (byte? a) s w = w
op_kept (bytes? a n) s w = w
op_kept (part! a bytes) s w = stored-formed s _ _ _ _ (page-stored s _ _ _) w
op_kept (or! p f) s w =
    cases (λ (r : ℕ × State). WellFormed r.1) (ltb p (length s.flags)) _ _ (λ e. flag-formed s p _ w) (λ e. w)
op_kept (lr! x) s w = formed-same s _ (op_lengths (lr! x) s) refl refl w

pub op_whole : (o : Op) (s : State) → Whole s → Whole (does o s).1
op_whole o s w = record { formed = op_kept o s w.formed; roomy = op_roomy o s w.roomy }

-- ---- every program, and every call

pub program-kept : {A : Type 0} (g : Call A) (s : State) → WellFormed s → WellFormed (run does g s).1
program-kept g s w = kept does WellFormed op_kept g s w

pub program-roomy : {A : Type 0} (g : Call A) (s : State) → Roomy s → Roomy (run does g s).1
program-roomy g s r = kept does Roomy op_roomy g s r

pub program-whole : {A : Type 0} (g : Call A) (s : State) → Whole s → Whole (run does g s).1
program-whole g s w = kept does Whole op_whole g s w

pub call_kept : (c : Named) (s : State) → WellFormed s → WellFormed (run does (program c) s).1
call_kept c s w = program-kept (program c) s w

pub call_whole : (c : Named) (s : State) → Whole s → Whole (run does (program c) s).1
call_whole c s w = program-whole (program c) s w

pub clear_kept : (p f : ℕ) (s : State) → WellFormed s → WellFormed (clear_flag p f s).1
unfolding clear_flag and_flag
clear_kept p f s w =
    cases P (fits s) _ _ (λ t. cases P (ltb p (length s.flags)) _ _ (λ u. flag-formed s p _ w) (λ u. w)) (λ t. w)
  where
    P : ℕ × State → Type 0
    P r = WellFormed r.1

pub clear_whole : (p f : ℕ) (s : State) → Whole s → Whole (clear_flag p f s).1
clear_whole p f s w =
    record { formed = clear_kept p f s w.formed; roomy = roomy-same s _ (clear_lengths p f s) w.roomy }

-- calls in turn
pub given_kept : (g : Given) (s : State) → WellFormed s → WellFormed (answer g s).1
given_kept (named c) s w = call_kept c s w
given_kept (clear_flag_call p f) s w = clear_kept p f s w

pub given_whole : (g : Given) (s : State) → Whole s → Whole (answer g s).1
given_whole (named c) s w = call_whole c s w
given_whole (clear_flag_call p f) s w = clear_whole p f s w

pub calls-kept : (gs : List Given) (s : State) → WellFormed s → WellFormed (leaves gs s)
unfolding leaves
calls-kept [] s w = w
calls-kept (g ∷ gs) s w = calls-kept gs _ (given_kept g s w)

pub calls-whole : (gs : List Given) (s : State) → Whole s → Whole (leaves gs s)
unfolding leaves
calls-whole [] s w = w
calls-whole (g ∷ gs) s w = calls-whole gs _ (given_whole g s w)

-- ---- a fresh memory

present_none : (n : ℕ) → present (filled n absent) ≡ 0
unfolding filled
present_none zero = refl
present_none (suc n) = present_none n

-- no page has a slot
pub fresh_slot : (n p : ℕ) → slot_in (filled n absent) p ≡ absent
unfolding filled
fresh_slot zero p = refl
fresh_slot (suc n) zero = refl
fresh_slot (suc n) (suc p) = fresh_slot n p

module _ (slots flags area : List ℕ) (size : ℕ) where
  -- what a fresh memory leaves, where the lengths are right
  abbrev made : State
  made = state_of (filled (length slots) absent) (filled (length flags) 0) area (fresh_memory size)

  -- where they are not, nothing is changed and there is no memory
  pub fresh-refused : fits_lengths (length slots) (length flags) (length area) (fresh_memory size) ≡ false
      → fresh slots flags area size ≡ (9, state_of slots flags area no_memory)
  unfolding fresh
  fresh-refused e = rw e

  -- it answers 0 only where they are right
  pub fresh-told : (fresh slots flags area size).0 ≡ 0
      → fits_lengths (length slots) (length flags) (length area) (fresh_memory size) ≡ true
  unfolding fresh
  fresh-told = go (fits_lengths (length slots) (length flags) (length area) (fresh_memory size))
    where
      go : (b : Bool) → ◌≡◌ {A = ℕ} (cond {A = ℕ × State} b (0, made) (9, state_of slots flags area no_memory)).0 0 → b ≡ true
      go true e = refl
      go false e = absurd (omega arith)

  module _ (fit : fits_lengths (length slots) (length flags) (length area) (fresh_memory size) ≡ true) where
    pub fresh-done : fresh slots flags area size
        ≡ (0, state_of (filled (length slots) absent) (filled (length flags) 0) area (fresh_memory size))
    unfolding fresh
    fresh-done = rw fit

    made-formed : WellFormed made
    made-formed =
        let f = fits-are _ _ _ _ fit in
        record {
          fit =
              record {
                whole = f.whole;
                small = f.small;
                slots_are = length-filled (length slots) absent ∙ f.slots_are;
                flags_are = length-filled (length flags) 0 ∙ f.flags_are;
                area_whole = f.area_whole;
                area_small = f.area_small;
                used_in = f.used_in;
              };
          held = λ p n. absurd (n (fresh_slot (length slots) p));
          apart = λ p q n e. absurd (n (fresh_slot (length slots) p));
          counted = present_none (length slots);
        }

    pub fresh-formed : WellFormed (fresh slots flags area size).1
    fresh-formed = rw fresh-done made-formed

    pub fresh-roomy : size ≤ length area → Roomy (fresh slots flags area size).1
    fresh-roomy h = rw fresh-done h

    pub fresh-whole : size ≤ length area → Whole (fresh slots flags area size).1
    fresh-whole h = record { formed = fresh-formed; roomy = fresh-roomy h }
