-- Pages that are met in turn, and what a load of a number or of bytes comes to.
use Rattle.std.proofs.Common.{◌≡◌, ℕ, zero, suc, ◌+◌, ◌-◌, ◌*◌, ◌/◌, ◌%◌, ◌<◌, ◌≤◌, min, Bool, true, false, cond, eqb, ltb, List, ◌++◌, length, drop, replicate, sym, refl, ap, ◌∙◌, arith, le-ltb, lt-ltb, eq-eqb, ne_eqb, eqb-true}
use native.Mathlib.Decide.{dec_lt}
use Rattle.bits.specs.Rounding.{page_size}
use Rattle.words.specs.Bytes.{patch, written, filled}
use Rattle.words.specs.LittleEndian.{from_le, Read}
use Rattle.std.specs.Int.{w64, from_le_bytes}
use Rattle.words.proofs.Std.{from_le-front}
use Rattle.words.proofs.Written.{part-written, written-fits, written_none}
use Rattle.program.specs.Program.{ret, ask, run, perform, after, and_then, each}
use Rattle.program.proofs.Laws.{after-done, after_stop, then_done, then_stop, each_none, each_turn, each-stop}
use Rattle.memory.specs.declared.Memory.{Memory}
use Rattle.memory.specs.Pages.{maximum}
use Rattle.memory.specs.Storage.{State, valued, no_value, Fitting, fits, absent, slot_in, byte_at, span, met}
use Rattle.memory.specs.Operations.{Call, does, fitting, meet?, bytes?}
use Rattle.memory.specs.Sparse.{meets, load, reach, load_bytes, Output, output, no_output}
use Rattle.memory.specs.Answers.{wrote, laid}
use Rattle.memory.proofs.Lengths.{fit-yes, fit_not}
use Rattle.memory.proofs.Span.{length-span, part-absent, part-there}

-- a number that is told to be 0
done_zero : (k : ℕ) (d : Bool) → d ≡ eqb k 0 → d ≡ true → k ≡ 0
done_zero k d i c = eqb-true k 0 (sym i ∙ c)

-- ---- a page that is met
module _ (slots : List ℕ) (used p : ℕ) where
  pub met-past : length slots ≤ p → 2 ≡ met slots used p
  unfolding met
  met-past h = rw (le-ltb p (length slots) h)

  module _ (there : p < length slots) (s : ℕ) (is : s ≡ slot_in slots p) where
    pub met-absent : s ≡ absent → 0 ≡ met slots used p
    unfolding met
    met-absent e = rw (lt-ltb p (length slots) there, ← is, e)

    module _ (n : s ≡ absent → ⊥) where
      pub met-used : s < used → 0 ≡ met slots used p
      unfolding met
      met-used h = rw (lt-ltb p (length slots) there, ← is, ne_eqb s absent n, lt-ltb s used h)

      pub met_unused : used ≤ s → 9 ≡ met slots used p
      unfolding met
      met_unused h = rw (lt-ltb p (length slots) there, ← is, ne_eqb s absent n, le-ltb s used h)

  module _ (k : ℕ) (d : Bool) (e : k ≡ met slots used p) (i : d ≡ eqb k 0) (c : d ≡ true) where
    -- a page whose bytes can be read is there
    pub met-there : p < length slots
    met-there = elim (dec_lt p (length slots)) [
      | yes h ↦ h
      | no h ↦ absurd (omega (arith, met-past (omega arith), done_zero k d i c))
    ]

    -- and its slot is in use, where it has one
    pub met_in : (s : ℕ) → s ≡ slot_in slots p → (s ≡ absent → ⊥) → s < used
    met_in s is n = elim (dec_lt s used) [
      | yes h ↦ h
      | no h ↦ absurd (omega (arith, met_unused met-there s is n (omega arith), done_zero k d i c))
    ]

-- ---- pages met in turn, of n bytes from a on, p the next: those that are left decide
abbrev met_at : ℕ → Call ℕ
met_at p = perform (meet? p)

abbrev left : ℕ → ℕ → ℕ → ℕ
left a n p = (a + n - 1) / page_size + 1 - p

pub record Meeting (slots : List ℕ) (used a n p : ℕ) : Type 0 where
  pub same : (s : State) → s.slots ≡ slots → s.memory.used ≡ used
      → run does (each met_at (left a n p) p) s ≡ run does (meets a n) s

pub meeting_none : (slots : List ℕ) (used a n : ℕ) → Meeting slots used a n (a / page_size)
unfolding meets
meeting_none slots used a n = record { same = λ s x u. refl }

module _ {slots : List ℕ} {used a n p : ℕ} (g : Meeting slots used a n p) where
  pub meeting-done : (s : State) → s.slots ≡ slots → s.memory.used ≡ used → (a + n - 1) / page_size < p
      → (0, s) ≡ run does (meets a n) s
  meeting-done s x u h = each_none does met_at s (left a n p) p (omega arith) ∙ g.same s x u

  module _ (k : ℕ) (d : Bool) (e : k ≡ met slots used p) (i : d ≡ eqb k 0) (h : p ≤ (a + n - 1) / page_size) where
    met-run : (s : State) → s.slots ≡ slots → s.memory.used ≡ used → (k, s) ≡ run does (met_at p) s
    unfolding run
    met-run s x u = rw (x, u, ← e)

    pub meeting_more : d ≡ true → Meeting slots used a n (p + 1)
    meeting_more c =
        record {
          same =
              λ s x u. each_turn does met_at s (left a n p) p (left a n (p + 1)) (omega arith) k s d (met-run s x u) i c
              ∙ g.same s x u;
        }

    pub meeting-stop : (s : State) → s.slots ≡ slots → s.memory.used ≡ used → d ≡ false → (k, s) ≡ run does (meets a n) s
    meeting-stop s x u c =
        each-stop does met_at s (left a n p) p (left a n (p + 1)) (omega arith) k s d (met-run s x u) i c ∙ g.same s x u

-- ---- a number
from_le-zeros : (n : ℕ) → from_le (filled n 0) ≡ 0
unfolding from_le filled
from_le-zeros zero = refl
from_le-zeros (suc n) = let h : from_le (filled n 0) ≡ 0 = from_le-zeros n in omega arith

-- a page and an index in it, of an address
address_is : (a : ℕ) → a / page_size * page_size + a % page_size ≡ a
address_is a = omega arith

module _ (s : State) (a n : ℕ) where
  -- the pages were met, and v is the number in the bytes
  loaded : (v : ℕ) → (0, s) ≡ run does (meets a n) s → v ≡ from_le (span (byte_at s) a n) → (valued v, s) ≡ run does (load n a) s
  unfolding run load
  loaded v e q = after-done does no_value (meets a n) _ s 0 s true _ e refl refl (rw q)

  module _ (k : ℕ) (d : Bool) (hn : 0 < n) (h8 : n ≤ 8) (e : k ≡ met s.slots s.memory.used (a / page_size)) (i : d ≡ eqb k 0) where
    first : Meeting s.slots s.memory.used a n (a / page_size)
    first = meeting_none s.slots s.memory.used a n

    -- the first page refuses
    pub load-stop : d ≡ false → (no_value k, s) ≡ run does (load n a) s
    unfolding load
    load-stop c = after_stop does no_value (meets a n) _ s k s d (meeting-stop first k d e i (omega arith) s refl refl c) i c

    module _ (c : d ≡ true) where
      next : Meeting s.slots s.memory.used a n (a / page_size + 1)
      next = meeting_more first k d e i (omega arith) c

      -- all bytes are on it
      module _ (one : a % page_size + n ≤ page_size) (slot : ℕ) (is : slot ≡ slot_in s.slots (a / page_size)) where
        all-met : (0, s) ≡ run does (meets a n) s
        all-met = meeting-done next s refl refl (omega arith)

        pub load-absent : slot ≡ absent → (valued 0, s) ≡ run does (load n a) s
        load-absent z =
            let p = part-absent s.slots s.area (a / page_size) (a % page_size) slot n is one (filled n 0) refl z in
            loaded 0 all-met (sym (from_le-zeros n) ∙ ap from_le (rw address_is at p))

        pub load-there : (slot ≡ absent → ⊥) → Fitting (length s.slots) (length s.flags) (length s.area) s.memory → (v : ℕ)
            → Read s.area (slot * page_size + a % page_size) (min n 8) v → (valued v, s) ≡ run does (load n a) s
        load-there z f v r =
            let x : min n 8 ≡ n = omega arith in
            let u = met_in s.slots s.memory.used (a / page_size) k d e i c slot is z in
            let p = part-there s.slots s.area (a / page_size) (a % page_size) slot n is one z (omega (arith, u, f.used_in)) in
            loaded v all-met (r.value ∙ rw x (ap from_le (rw address_is at p)))

      -- some are on the page after it
      module _ (two : page_size < a % page_size + n) (j : ℕ) (b : Bool) (q : j ≡ met s.slots s.memory.used (a / page_size + 1))
          (o : b ≡ eqb j 0) where
        pub load-second : b ≡ false → (no_value j, s) ≡ run does (load n a) s
        unfolding load
        load-second t = after_stop does no_value (meets a n) _ s j s b (meeting-stop next j b q o (omega arith) s refl refl t) o t

        pub load-two : b ≡ true → (front bytes : List ℕ) (v : ℕ) → bytes ≡ written front 0 (span (byte_at s) a n) → n ≤ length front
            → Read bytes 0 (min n 8) v → (valued v, s) ≡ run does (load n a) s
        load-two t front bytes v w l r =
            let x : min n 8 ≡ n = omega arith in
            let y : length (span (byte_at s) a n) ≡ n = length-span (byte_at s) n a in
            let p = rw y at (part-written front (span (byte_at s) a n) 0 (omega arith)) in
            let g = meeting_more next j b q o (omega arith) t in
            loaded v (meeting-done g s refl refl (omega arith)) (r.value ∙ rw (x, w) (ap from_le p))

        -- the same, of eight bytes that were zeros
        pub load-zeros : b ≡ true → (bytes : List ℕ) (v : ℕ) → bytes ≡ written (replicate 8 0) 0 (span (byte_at s) a n)
            → v ≡ from_le_bytes w64 bytes → (valued v, s) ≡ run does (load n a) s
        load-zeros t bytes v w r =
            let l : List ℕ = span (byte_at s) a n in
            let y : length l ≡ n = length-span (byte_at s) n a in
            let e : 0 + length l ≡ n = omega (arith, y) in
            let p : patch (replicate 8 0) 0 l ≡ l ++ drop n (replicate 8 0) = ap (λ (k : ℕ). l ++ drop k (replicate 8 0)) e in
            let f : bytes ≡ l ++ drop n (replicate 8 0) = w ∙ written-fits (replicate 8 0) l 0 (rw y (omega arith)) ∙ p in
            let g = meeting_more next j b q o (omega arith) t in
            loaded v (meeting-done g s refl refl (omega arith)) (r ∙ ap (from_le_bytes w64) f ∙ from_le-front n l h8 y)

-- the page after the first is there: the bytes lie below the maximum
pub load_end : (slots : List ℕ) (flags area : ℕ) (m : Memory) (a n k : ℕ) (d : Bool) → Fitting (length slots) flags area m → n ≤ 8
    → k ≡ met slots m.used (a / page_size + 1) → d ≡ eqb k 0 → d ≡ true → a + n ≤ maximum
load_end slots flags area m a n k d f h e i c =
    omega (arith, met-there slots m.used (a / page_size + 1) k d e i c, f.small, f.slots_are)

-- ---- bytes within reach
module _ (s : State) (a n room : ℕ) where
  -- past the test of the end
  rest : Call ℕ
  rest = and_then (meets a n) (ret (cond (ltb room n) 8 0))

  pub reach-past : s.memory.size < a + n → (2, s) ≡ run does (reach a n room) s
  unfolding run reach rest
  reach-past h = ap (λ (b : Bool). run does (cond b (ret 2) rest) s) (sym (lt-ltb s.memory.size (a + n) h))

  inside : a + n ≤ s.memory.size → run does rest s ≡ run does (reach a n room) s
  unfolding run reach rest
  inside h = ap (λ (b : Bool). run does (cond b (ret 2) rest) s) (sym (le-ltb s.memory.size (a + n) h))

  module _ (ha : a ≤ s.memory.size) (hn : n ≤ s.memory.size - a) (k : ℕ) (d : Bool) (t : State)
      (e : (k, t) ≡ run does (meets a n) s) (i : d ≡ eqb k 0) where
    pub reach-stop : d ≡ false → (k, t) ≡ run does (reach a n room) s
    unfolding rest
    reach-stop c = then_stop does (meets a n) _ s k t d e i c ∙ inside (omega arith)

    all_there : d ≡ true → (cond (ltb room n) 8 0, t) ≡ run does (reach a n room) s
    unfolding run rest
    all_there c = then_done does (meets a n) _ s k t d _ e i c refl ∙ inside (omega arith)

    pub reach-short : d ≡ true → room < n → (8, t) ≡ run does (reach a n room) s
    reach-short c h = rw (lt-ltb room n h) at (all_there c)

    pub reach-fine : d ≡ true → n ≤ room → (0, t) ≡ run does (reach a n room) s
    reach-fine c h = rw (le-ltb room n h) at (all_there c)

  -- what is known where they are
  module _ (k : ℕ) (d : Bool) (e : (k, s) ≡ run does (reach a n room) s) (i : d ≡ eqb k 0) (c : d ≡ true) where
    not_this : (j : ℕ) (t : State) → (j ≡ 0 → ⊥) → (j, t) ≡ run does (reach a n room) s → ⊥
    not_this j t z h = z (ap (λ (x : ℕ × State). x.0) (h ∙ sym e) ∙ done_zero k d i c)

    reach_in : a + n ≤ s.memory.size
    reach_in = elim (dec_lt s.memory.size (a + n)) [
      | yes h ↦ absurd (not_this 2 s (λ z. omega arith) (reach-past h))
      | no h ↦ omega arith
    ]

    not_short : room < n → (j : ℕ) (t : State) → (j, t) ≡ run does (meets a n) s → (b : Bool) → b ≡ eqb j 0 → ⊥
    not_short h j t q true o =
        let f = reach_in in
        not_this 8 t (λ z. omega arith) (reach-short (omega arith) (omega arith) j true t q o refl h)
    not_short h j t q false o =
        let f = reach_in in
        not_this j t (λ z. let y : false ≡ true = o ∙ eq-eqb j 0 z in let x : ◌≡◌ {A = ℕ} 0 1 = cc in omega arith)
        (reach-stop (omega arith) (omega arith) j false t q o refl)

    reach-room : n ≤ room
    reach-room = elim (dec_lt room n) [
      | yes h ↦ let r = run does (meets a n) s in absurd (not_short h r.0 r.1 refl (eqb r.0 0) refl)
      | no h ↦ omega arith
    ]

    -- what their load asks
    pub reach-told : Fitting (length s.slots) (length s.flags) (length s.area) s.memory
        → (n ≤ room) × ((a + n ≤ maximum) × (length s.area % page_size ≡ 0))
    reach-told f = (reach-room, (omega (arith, reach_in, f.small), f.area_whole))

-- ---- a lent output, with the bytes of a result at its front
module _ (s : State) (out : List ℕ) where
  -- a refusal has none
  pub unchanged : (k : ℕ) → wrote k 0 out s ≡ laid out (no_output k, s)
  unchanged k = ap (λ (t : List ℕ). wrote k 0 t s) (sym (written_none out 0))

  module _ (g : Call Output) (b : Bool) (f : b ≡ fits s) where
    pub laid_unfit : b ≡ false → wrote 9 0 out s ≡ laid out (run does (fitting no_output g) s)
    laid_unfit t = unchanged 9 ∙ ap (laid out) (fit_not no_output s g b f t)

    pub laid-fit : (r : Output × State) → b ≡ true → r ≡ laid out (run does g s) → r ≡ laid out (run does (fitting no_output g) s)
    laid-fit r t q = q ∙ ap (laid out) (fit-yes no_output s g b f _ t refl)

-- ---- load_bytes
module _ (s : State) (a n room : ℕ) (out : List ℕ) (b : Bool) (f : b ≡ fits s) (t : b ≡ true) where
  -- none is asked for
  pub bytes_none : n ≡ 0 → wrote 0 0 out s ≡ laid out (run does (load_bytes a n room) s)
  unfolding run load_bytes
  bytes_none z = laid-fit s out _ b f _ t (rw z (unchanged s out 0))

  module _ (z : n ≡ 0 → ⊥) (k : ℕ) (d : Bool) (e : (k, s) ≡ run does (reach a n room) s) (i : d ≡ eqb k 0) where
    asked : (r : Output × State) → r ≡ run does (after no_output (reach a n room) (ask (bytes? a n) (λ l. ret (output 0 0 l)))) s
        → laid out r ≡ laid out (run does (load_bytes a n room) s)
    unfolding load_bytes
    asked r q =
        let g = after no_output (reach a n room) (ask (bytes? a n) (λ l. ret (output 0 0 l))) in
        laid-fit s out _ b f _ t
        (ap (laid out) (q ∙ ap (λ (c : Bool). run does (cond c (ret (no_output 0)) g) s) (sym (ne_eqb n 0 z))))

    pub bytes-stop : d ≡ false → wrote k 0 out s ≡ laid out (run does (load_bytes a n room) s)
    bytes-stop c = unchanged s out k ∙ asked _ (after_stop does no_output (reach a n room) _ s k s d e i c)

    pub bytes-done : (l : List ℕ) → d ≡ true → l ≡ written out 0 (span (byte_at s) a n)
        → wrote 0 0 l s ≡ laid out (run does (load_bytes a n room) s)
    unfolding run
    bytes-done l c q =
        ap (λ (x : List ℕ). wrote 0 0 x s) q
        ∙ asked (output 0 0 (span (byte_at s) a n), s) (after-done does no_output (reach a n room) _ s k s d _ e i c refl)
