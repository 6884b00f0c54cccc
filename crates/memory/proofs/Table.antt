-- Document 01's table as far as it is about the memory: "Proved together, as a single table: the three roundings up, the three
-- page indices, .. and these for 4 pages: two bytes at 16,383, sparse (one byte written, page 3 dirty, 2) and W^X on flag 0 (2,
-- no change)".
use Rattle.std.proofs.Common.{◌≡◌, ℕ, zero, suc, ◌<◌, ◌≤◌, true, ltb, ◌≢◌, List, [], ◌∷◌, length, get_or, sym, refl, ap, ◌∙◌, arith, ext_get_or, ltb-false, ltb-true}
use mathlib.Core.Path.{subst⁻¹}
use Rattle.bits.proofs.Table.{Roundings, roundings}
use Rattle.words.specs.Bytes.{filled}
use Rattle.program.specs.Program.{run, bind, after, each}
use Rattle.memory.specs.Pages.{no_indices, page_indices, pages_within}
use Rattle.memory.specs.Storage.{State, state_of, byte_at, flag_in, fits_lengths, fresh}
use Rattle.memory.specs.declared.Memory.{Memory}
use Rattle.memory.specs.Operations.{does, fitting}
use Rattle.memory.specs.Sparse.{store, store_over, permit, permits}
use Rattle.memory.specs.Sparse as sparse
use Rattle.memory.specs.WXorX.{permitted}
use Rattle.memory.specs.WXorX as wxorx
use Rattle.memory.specs.View.{View, Whole, view, placed, at_one, stored, does_v}
use Rattle.memory.proofs.Lengths.{fit-yes}
use Rattle.memory.proofs.StoreCases.{cases}
use Rattle.memory.proofs.WellFormed.{fresh-told, fresh-whole, program-lengths}
use Rattle.memory.proofs.Replies.{lengths_reply}
use Rattle.memory.proofs.Seen.{blank, program-seen, fresh-seen}

-- "Page indices of (address, size)"
pub record Indices : Type 0 where
  -- "(4,095, 2) gives 0 and 1"
  pub across : page_indices 4095 2 ≡ record { number = 0; first = 0; last = 1 }
  -- "(4,194,303, 1) gives 1,023 twice"
  pub last : page_indices 4194303 1 ≡ record { number = 0; first = 1023; last = 1023 }
  -- "(4,194,303, 2) is refused"
  pub beyond : page_indices 4194303 2 ≡ no_indices 2

indices : Indices
unfolding pages_within
indices = record { across = refl; last = refl; beyond = refl }

-- what the sparse store of b and c at 16,383 leaves of s
abbrev pub sparsely : ℕ → ℕ → State → ℕ × State
sparsely b c s = run does (sparse.store_bytes 16383 (b ∷ c ∷ [])) s

-- "two bytes at 16,383"
pub record TwoBytes (s : State) (b c : ℕ) : Type 0 where
  -- "sparse (.. 2)"
  pub sparse_number : (sparsely b c s).0 ≡ 2
  -- "one byte written": the first one, and every other is 0 still
  pub sparse_byte : byte_at (sparsely b c s).1 16383 ≡ b
  pub sparse_rest : (a : ℕ) → a ≢ 16383 → byte_at (sparsely b c s).1 a ≡ 0
  -- "page 3 dirty"
  pub sparse_flags : (sparsely b c s).1.flags ≡ 0 ∷ 0 ∷ 0 ∷ 4 ∷ []
  -- "and W^X on flag 0 (2, no change)"
  pub on_wxorx : run does (wxorx.store_bytes 16383 (b ∷ c ∷ [])) s ≡ (2, s)

-- ---- on the view of a fresh memory, the programs compute

sparse_run : (b c : ℕ) → run does_v (sparse.store_bytes 16383 (b ∷ c ∷ [])) (blank 16384) ≡ (2, stored (blank 16384) 16383 (b ∷ []))
unfolding run bind after fitting sparse.store_bytes store store_over
sparse_run b c = refl

placed-rest : (b a : ℕ) → a ≢ 16383 → placed (λ i. 0) 16383 (b ∷ []) a ≡ 0
unfolding placed
placed-rest b a n =
    cases (λ (x : ℕ). x ≡ 0) (ltb a 16383) _ _
    (λ e. refl)
    (λ e.
    cases (λ (x : ℕ). x ≡ 0) (ltb a 16384) _ _
    (λ k. absurd (omega (arith, ltb-false a 16383 e, ltb-true a 16384 k)))
    (λ k. refl))

-- a list of four, by its elements
four : (l : List ℕ) (a b c d : ℕ) → length l ≡ 4 → get_or l 0 0 ≡ a → get_or l 1 0 ≡ b → get_or l 2 0 ≡ c → get_or l 3 0 ≡ d
    → l ≡ a ∷ b ∷ c ∷ d ∷ []
four l a b c d n p q r t = ext_get_or 0 l (a ∷ b ∷ c ∷ d ∷ []) n each-one
  where
    each-one : (i : ℕ) → i < length l → get_or l i 0 ≡ get_or (a ∷ b ∷ c ∷ d ∷ []) i 0
    each-one zero h = p
    each-one (suc zero) h = q
    each-one (suc (suc zero)) h = r
    each-one (suc (suc (suc zero))) h = t
    each-one (suc (suc (suc (suc i)))) h = absurd (omega arith)

wxorx_run : (b c : ℕ) (slots area : List ℕ) (m : Memory) → let s : State = state_of slots (0 ∷ 0 ∷ 0 ∷ 0 ∷ []) area m in
    (true ≡ fits_lengths (length slots) 4 (length area) m) → run does (wxorx.store_bytes 16383 (b ∷ c ∷ [])) s ≡ (2, s)
unfolding run bind after wxorx.store_bytes permitted permits permit each pages_within flag_in
wxorx_run b c slots area m e =
    let s : State = state_of slots (0 ∷ 0 ∷ 0 ∷ 0 ∷ []) area m in
    sym (fit-yes (λ n. n) s _ true e (2, s) refl refl)

-- ---- any memory that looks like a fresh one of 4 pages

module _ (s : State) (w : Whole s) (look : view s ≡ blank 16384) (b c : ℕ) where
  ran : run does_v (sparse.store_bytes 16383 (b ∷ c ∷ [])) (view s) ≡ (2, stored (blank 16384) 16383 (b ∷ []))
  ran = ap (run does_v (sparse.store_bytes 16383 (b ∷ c ∷ []))) look ∙ sparse_run b c

  left : view (sparsely b c s).1 ≡ stored (blank 16384) 16383 (b ∷ [])
  left = (program-seen (sparse.store_bytes 16383 (b ∷ c ∷ [])) s w).seen ∙ ap (λ (x : ℕ × View). x.1) ran

  pages : length s.flags ≡ 4
  pages = let z : s.memory.size ≡ 16384 = ap (λ (v : View). v.size) look in omega (arith, w.formed.fit.flags_are)

  flags_none : s.flags ≡ 0 ∷ 0 ∷ 0 ∷ 0 ∷ []
  flags_none =
      let f : (p : ℕ) → get_or s.flags p 0 ≡ 0 = λ p. ap (λ (v : View). v.flag p) look in
      four s.flags 0 0 0 0 pages (f 0) (f 1) (f 2) (f 3)

  pub two_bytes : TwoBytes s b c
  unfolding placed at_one
  two_bytes =
      let f : (p : ℕ) → get_or (sparsely b c s).1.flags p 0 ≡ at_one (λ q. 0) 3 4 p = λ p. ap (λ (v : View). v.flag p) left in
      record {
        sparse_number =
            (program-seen (sparse.store_bytes 16383 (b ∷ c ∷ [])) s w).out ∙ ap (λ (x : ℕ × View). x.0) ran;
        sparse_byte = ap (λ (v : View). v.byte 16383) left;
        sparse_rest = λ a n. ap (λ (v : View). v.byte a) left ∙ placed-rest b a n;
        sparse_flags =
            let n = program-lengths (sparse.store_bytes 16383 (b ∷ c ∷ [])) s in
            four (sparsely b c s).1.flags 0 0 0 4 (n.flags ∙ pages) (f 0) (f 1) (f 2) (f 3);
        on_wxorx =
            subst⁻¹
            (λ (l : List ℕ).
            run does (wxorx.store_bytes 16383 (b ∷ c ∷ [])) (state_of s.slots l s.area s.memory)
            ≡ (2, state_of s.slots l s.area s.memory))
            flags_none
            (wxorx_run b c s.slots s.area s.memory (rw pages at (sym (lengths_reply s w.formed))));
      }

-- ---- the table

pub record Table : Type 0 where
  -- "0 gives 0, 4,097 gives 8,192, 2^64-1 gives 0"
  pub rounding : Roundings
  pub the_page_indices : Indices
  -- "and these for 4 pages": of any storage that is lent to a fresh memory, with a slot for every page
  pub stores : (slots flags area : List ℕ) → (fresh slots flags area 16384).0 ≡ 0 → 16384 ≤ length area → (b c : ℕ)
      → TwoBytes (fresh slots flags area 16384).1 b c
  -- such storage there is: four slot numbers, four flags and 16,384 bytes
  pub lent : (x₀ x₁ x₂ x₃ f₀ f₁ f₂ f₃ v : ℕ)
      → (fresh (x₀ ∷ x₁ ∷ x₂ ∷ x₃ ∷ []) (f₀ ∷ f₁ ∷ f₂ ∷ f₃ ∷ []) (filled 16384 v) 16384).0 ≡ 0

pub table : Table
unfolding fresh fits_lengths filled
table =
    record {
      rounding = roundings;
      the_page_indices = indices;
      stores = λ slots flags area e h b c.
          let f = fresh-told slots flags area 16384 e in
          two_bytes (fresh slots flags area 16384).1 (fresh-whole slots flags area 16384 f h) (fresh-seen slots flags area 16384 f) b c;
      lent = λ x₀ x₁ x₂ x₃ f₀ f₁ f₂ f₃ v. refl;
    }
