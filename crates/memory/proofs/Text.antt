-- A C string that is read byte by byte: one law for each end of a turn.
use Rattle.std.proofs.Common.{◌≡◌, ℕ, zero, suc, ◌+◌, ◌-◌, ◌/◌, ◌^◌, ◌<◌, ◌≤◌, Bool, true, false, cond, eqb, List, [], ◌∷◌, ◌++◌, length, take, drop, set, sym, ap, ◌∙◌, add-one, arith, length-set, take-append-drop, length-take-le, drop-drop, take-suc-set, drop-set-lt, eq-eqb, ne_eqb}
use Rattle.bits.specs.Rounding.{page_size}
use Rattle.words.specs.Bytes.{written}
use Rattle.words.proofs.Written.{written-fits}
use Rattle.program.specs.Program.{ret, ask, run, onwards}
use Rattle.memory.specs.declared.Memory.{Memory}
use Rattle.memory.specs.Storage.{State, Fitting, byte_in, byte_at, met}
use Rattle.memory.specs.Operations.{Call, does, byte?}
use Rattle.memory.specs.Sparse.{Output, output, next_byte, c_string}
use Rattle.memory.specs.Answers.{wrote, laid}
use Rattle.memory.proofs.Loads.{met-there}

-- ---- a turn: the page is met, the byte is read
module _ (s : State) (a : ℕ) (seen : List ℕ) (more : ℕ → Call Output) where
  got : ℕ → Call Output
  got b = cond (eqb b 0) (ret (output 0 (length seen) seen)) (more b)

  module _ (k : ℕ) (d : Bool) (e : k ≡ met s.slots s.memory.used (a / page_size)) (i : d ≡ eqb k 0) where
    turn : run does (cond d (ask (byte? a) got) (ret (output k 0 seen))) s ≡ run does (next_byte a seen more) s
    unfolding run next_byte got
    turn =
        ap (λ (b : Bool). run does (cond b (ask (byte? a) got) (ret (output k 0 seen))) s) i
        ∙ ap (λ (x : ℕ). run does (onwards (λ y. output y 0 seen) (ask (byte? a) got) x) s) e

    next-stop : d ≡ false → (output k 0 seen, s) ≡ run does (next_byte a seen more) s
    unfolding run
    next-stop c = ap (λ (b : Bool). run does (cond b (ask (byte? a) got) (ret (output k 0 seen))) s) (sym c) ∙ turn

    module _ (c : d ≡ true) (x : ℕ) (q : x ≡ byte_at s a) where
      seen-byte : run does (got x) s ≡ run does (next_byte a seen more) s
      unfolding run
      seen-byte =
          ap (λ (y : ℕ). run does (got y) s) q
          ∙ ap (λ (b : Bool). run does (cond b (ask (byte? a) got) (ret (output k 0 seen))) s) (sym c) ∙ turn

      next-end : x ≡ 0 → (output 0 (length seen) seen, s) ≡ run does (next_byte a seen more) s
      unfolding run got
      next-end z =
          ap (λ (b : Bool). run does (cond b (ret (output 0 (length seen) seen)) (more x)) s) (sym (eq-eqb x 0 z)) ∙ seen-byte

      next-on : (x ≡ 0 → ⊥) → run does (more x) s ≡ run does (next_byte a seen more) s
      unfolding got
      next-on z =
          ap (λ (b : Bool). run does (cond b (ret (output 0 (length seen) seen)) (more x)) s) (sym (ne_eqb x 0 z)) ∙ seen-byte

-- ---- the loop: the first i bytes of the output were read, and what is left to read comes to the whole
pub record Reading (slots area : List ℕ) (used a₀ : ℕ) (out₀ out : List ℕ) (i a : ℕ) : Type 0 where
  pub same : (s : State) → s.slots ≡ slots → s.area ≡ area → s.memory.used ≡ used
      → run does (c_string (length out₀ - i) a (take i out)) s ≡ run does (c_string (length out₀) a₀ []) s
  pub in_out : i ≤ length out₀
  pub kept : length out ≡ length out₀
  pub rest_kept : drop i out ≡ drop i out₀

module _ {slots area : List ℕ} {used a₀ : ℕ} {out₀ out : List ℕ} {i a : ℕ} (g : Reading slots area used a₀ out₀ out i a) where
  front : length (take i out) ≡ i
  front = length-take-le i out (omega (arith, g.in_out, g.kept))

  -- the front that was read, laid on the output at entry, is the output now
  now-is : out ≡ written out₀ 0 (take i out)
  now-is =
      let z : 0 + length (take i out) ≡ i = omega (arith, front) in
      let w : take i out ++ drop (0 + length (take i out)) out₀ ≡ out = rw (z, ← g.rest_kept) (take-append-drop i out) in
      sym (written-fits out₀ (take i out) 0 (omega (arith, g.in_out)) ∙ w)

  module _ (k : ℕ) (d : Bool) (e : k ≡ met slots used (a / page_size)) (j : d ≡ eqb k 0) where
    -- the next address is a number
    pub text_at : d ≡ true → (flags area : ℕ) (m : Memory) → Fitting (length slots) flags area m → a + 1 < 2 ^ 64
    text_at c flags area m f = omega (arith, met-there slots used (a / page_size) k d e j c, f.small, f.slots_are)

    module _ (s : State) (x : s.slots ≡ slots) (y : s.area ≡ area) (u : s.memory.used ≡ used) where
      met-is : k ≡ met s.slots s.memory.used (a / page_size)
      met-is = rw (x, u) e

      -- an end of the loop with what was read
      ends : (n v : ℕ) → ◌≡◌ {A = Output × State} (output n v (take i out), s) (run does (c_string (length out₀ - i) a (take i out)) s)
          → wrote n v out s ≡ laid out₀ (run does (c_string (length out₀) a₀ []) s)
      ends n v q = ap (λ (t : List ℕ). wrote n v t s) now-is ∙ ap (laid out₀) (q ∙ g.same s x y u)

      stop-at : (room : ℕ) → d ≡ false
          → ◌≡◌ {A = Output × State} (output k 0 (take i out), s) (run does (c_string room a (take i out)) s)
      unfolding c_string
      stop-at zero c = next-stop s a (take i out) _ k d met-is j c
      stop-at (suc room) c = next-stop s a (take i out) _ k d met-is j c

      pub text-stop : d ≡ false → wrote k 0 out s ≡ laid out₀ (run does (c_string (length out₀) a₀ []) s)
      text-stop c = ends k 0 (stop-at (length out₀ - i) c)

    module _ (c : d ≡ true) (b : ℕ) (q : b ≡ byte_in slots area a) where
      module _ (s : State) (x : s.slots ≡ slots) (y : s.area ≡ area) (u : s.memory.used ≡ used) where
        byte-is : b ≡ byte_at s a
        byte-is = rw (x, y) q

        end-at : (room : ℕ) → b ≡ 0
            → ◌≡◌ {A = Output × State} (output 0 (length (take i out)) (take i out), s) (run does (c_string room a (take i out)) s)
        unfolding c_string
        end-at zero z = next-end s a (take i out) _ k d (met-is s x y u) j c b byte-is z
        end-at (suc room) z = next-end s a (take i out) _ k d (met-is s x y u) j c b byte-is z

        pub text-end : b ≡ 0 → wrote 0 i out s ≡ laid out₀ (run does (c_string (length out₀) a₀ []) s)
        text-end z = ends s x y u 0 i (rw front at (end-at (length out₀ - i) z))

        pub text-full : (b ≡ 0 → ⊥) → length out ≤ i → wrote 8 0 out s ≡ laid out₀ (run does (c_string (length out₀) a₀ []) s)
        unfolding c_string run
        text-full z h =
            let w : length out₀ - i ≡ 0 = omega (arith, g.kept) in
            ends s x y u 8 0
            (rw w (next-on s a (take i out) (λ _. ret (output 8 0 (take i out))) k d (met-is s x y u) j c b byte-is z))

      pub reading_more : (b ≡ 0 → ⊥) → i < length out → Reading slots area used a₀ out₀ (set out i b) (i + 1) (a + 1)
      unfolding c_string
      reading_more z h =
          let l = g.kept in
          let w : length out₀ - i ≡ suc (length out₀ - (i + 1)) = omega arith in
          let f : i + 1 ≡ suc i = add-one i in
          let more : ℕ → Call Output = λ t. c_string (length out₀ - (i + 1)) (a + 1) (take i out ++ (t ∷ [])) in
          record {
            same =
                λ s x y u. rw (f, take-suc-set out i b h)
                (rw f at (next-on s a (take i out) more k d (met-is s x y u) j c b (byte-is s x y u) z))
                ∙ ap (λ (n : ℕ). run does (c_string n a (take i out)) s) (sym w) ∙ g.same s x y u;
            in_out = omega arith;
            kept = length-set out i b ∙ l;
            rest_kept = drop-set-lt (i + 1) out i b (omega arith) ∙ rw (← drop-drop 1 i out, ← drop-drop 1 i out₀, g.rest_kept);
          }
