-- A run restored, step by step.
use mathlib.Core.Path.{◌≡◌, refl, ap, ◌∙◌}
use mathlib.Core.Bool.{true, false}
use mathlib.Core.List.{List}
use Prim.Native.Nat.{ℕ, ◌+◌, ◌-◌, ◌/◌, ◌%◌, ◌≤◌, ◌<◌}
use native.Mathlib.Omega.{arith}
use lib.ListN.{length}
use borrow.Author.Tests.{eq-eqb, ne_eqb}
use Rattle.std.specs.Prelude.{Option, Some, None}
use Rattle.bits.specs.Rounding.{page_size}
use Rattle.outcome.specs.Numbers.{refusal_number}
use Rattle.outcome.specs.declared.Refusal.{Refusal}
use Rattle.program.specs.Program.{run}
use Rattle.program.specs.Layers.{lift}
use Rattle.program.proofs.Laws.{then_done, then_stop, each_none, each_turn, each-stop}
use Rattle.program.proofs.Lifted.{lifted}
use Rattle.memory.specs.Storage.{State}
use Rattle.memory.specs.Operations as memory
use Rattle.memory.specs.Sparse as sparse
use Rattle.memory.specs.WXorX as wxorx
use Rattle.memory.proofs.Refused.{refused}
use Rattle.machine.specs.Fresh.{Tracked}
use Rattle.recordfile.specs.declared.Record.{Record}
use Rattle.recordfile.specs.declared.Record.TheVariants as variants
use Rattle.recordfile.specs.Snapshots.{source_run, dirty_run}
use Rattle.tracking.specs.declared.sources.Place.{Place}
use Rattle.tracking.specs.Sources.{Data, placed, find_data, data_of}
use Rattle.tracking.specs.Operations.{owns, does, on_memory}
use Rattle.tracking.specs.Tracking.{track_pages}
use Rattle.snapshot.specs.Resume.{set_flags, store_run, store_source, restore_data, restore_source, restore_dirty, restore_record}

-- ---- flags set, page by page
module _ (flag : ℕ) (s₀ : State) (first count : ℕ) where
  -- the pages from this one on, as they are now, come to what all come to with those at entry
  abbrev pub Setting : State → ℕ → Type 0
  Setting s page = run memory.does (set_flags page (first + count - page) flag) s ≡ run memory.does (set_flags first count flag) s₀

  pub setting_first : Setting s₀ first
  setting_first = let k : first + count - first ≡ count = omega arith in rw k

  module _ (s : State) (page : ℕ) (w : Setting s page) where
    pub set_all : first + count ≤ page → (0, s) ≡ run memory.does (set_flags first count flag) s₀
    unfolding set_flags
    set_all h = each_none memory.does (λ p. sparse.set_flag p flag) s (first + count - page) page (omega arith) ∙ w

    module _ (h : page < first + count) (t : State) where
      pub setting_stop : (x : Refusal) → (refusal_number x, t) ≡ run memory.does (sparse.set_flag page flag) s
          → (refusal_number x, t) ≡ run memory.does (set_flags first count flag) s₀
      unfolding set_flags
      setting_stop x q =
          each-stop memory.does (λ p. sparse.set_flag p flag) s (first + count - page) page (first + count - (page + 1)) (omega arith)
          _ t false q (refused x) refl
          ∙ w

      pub setting_next : (0, t) ≡ run memory.does (sparse.set_flag page flag) s → Setting t (page + 1)
      unfolding set_flags
      setting_next q =
          each_turn memory.does (λ p. sparse.set_flag p flag) s (first + count - page) page (first + count - (page + 1)) (omega arith)
          0 t true q refl refl
          ∙ w

-- ---- a run stored

-- store, set flags
module _ (s : State) (records : List ℕ) (a flag : ℕ) (bytes : List ℕ) (t : State) where
  pub run_stored : (0, t) ≡ run memory.does (wxorx.store_bytes a bytes) s
      → (k : ℕ) (u : State) → (k, u) ≡ run memory.does (set_flags (a / page_size) (length bytes / page_size) flag) t
      → (k, (u, records)) ≡ run does (on_memory (store_run a flag bytes)) (s, records)
  unfolding store_run
  run_stored e k u q =
      lifted memory.does owns (store_run a flag bytes) s records k u (then_done memory.does _ _ s 0 t true _ e refl refl q)

  pub run_refused : (x : Refusal) → (refusal_number x, t) ≡ run memory.does (wxorx.store_bytes a bytes) s
      → (refusal_number x, (t, records)) ≡ run does (on_memory (store_run a flag bytes)) (s, records)
  unfolding store_run
  run_refused x e =
      lifted memory.does owns (store_run a flag bytes) s records _ t
      (then_stop memory.does _ (set_flags (a / page_size) (length bytes / page_size) flag) s _ t false e (refused x) refl)

-- these, then track
module _ (s : Tracked) (a flag id offset : ℕ) (bytes : List ℕ) (t : Tracked) where
  pub source_stored : (0, t) ≡ run does (on_memory (store_run a flag bytes)) s
      → (r : ℕ × Tracked) → r ≡ run does (track_pages a (length bytes) id offset) t
      → r ≡ run does (store_source a flag id offset bytes) s
  unfolding store_source
  source_stored e r q = then_done does _ _ s 0 t true r e refl refl q

  pub source_refused : (x : Refusal) → (refusal_number x, t) ≡ run does (on_memory (store_run a flag bytes)) s
      → (refusal_number x, t) ≡ run does (store_source a flag id offset bytes) s
  unfolding store_source
  source_refused x e = then_stop does _ (track_pages a (length bytes) id offset) s _ t false e (refused x) refl

-- ---- a source run
module _ (s : Tracked) (directory sources : List ℕ) (a flag id offset size : ℕ) where
  abbrev restored : ℕ × Tracked
  restored = run does (restore_source directory sources (source_run a flag id offset size)) s

  pub source_unaligned : (a % page_size ≡ 0 → ⊥) → (3, s) ≡ restored
  unfolding run restore_source
  source_unaligned h = rw (ne_eqb (a % page_size) 0 h)

  module _ (h : a % page_size ≡ 0) (p : Option Place) (q : placed p ≡ find_data directory (length sources) id offset size) where
    -- what follows the lookup
    looked_up : (r : ℕ × Tracked) → r ≡ run does (restore_data (placed p) (data_of sources (placed p)) a flag id offset) s → r ≡ restored
    unfolding restore_source
    looked_up r e =
        e
        ∙ ap (λ (d : Data). run does (restore_data d (data_of sources d) a flag id offset) s) q
        ∙ rw (eq-eqb (a % page_size) 0 h)

    pub source_missing : p ≡ None → (6, s) ≡ restored
    unfolding run restore_data
    source_missing e = looked_up _ (rw e)

    -- data was found
    module _ (place : Place) (e : p ≡ Some place) (bytes : List ℕ) (l : bytes ≡ data_of sources (placed p)) where
      pub data_cut : (length bytes % page_size ≡ 0 → ⊥) → (3, s) ≡ restored
      unfolding run restore_data
      data_cut n = looked_up _ (rw (← l, e, ne_eqb (length bytes % page_size) 0 n))

      pub data_whole : length bytes % page_size ≡ 0 → (r : ℕ × Tracked) → r ≡ run does (store_source a flag id offset bytes) s → r ≡ restored
      unfolding restore_data
      data_whole n r k = looked_up _ (rw (← l, e, eq-eqb (length bytes % page_size) 0 n) k)

-- ---- a dirty run
module _ (s : Tracked) (a flag : ℕ) (content : List ℕ) where
  pub dirty_unaligned : (a % page_size ≡ 0 → ⊥) → (3, s) ≡ run does (on_memory (restore_dirty (dirty_run a flag content))) s
  unfolding run lift restore_dirty
  dirty_unaligned h = rw (ne_eqb (a % page_size) 0 h)

  pub dirty_aligned : a % page_size ≡ 0 → (r : ℕ × Tracked) → r ≡ run does (on_memory (store_run a flag content)) s
      → r ≡ run does (on_memory (restore_dirty (dirty_run a flag content))) s
  unfolding restore_dirty
  dirty_aligned h r e = e ∙ rw (eq-eqb (a % page_size) 0 h)

-- ---- the run of a record

-- a record that is no run: of another kind, or none
abbrev pub NoRun : Record → Type 0
NoRun r = ((address flag id offset size : ℕ) → r ≡ variants.Source address flag id offset size → ⊥)
    × ((address flag pages place : ℕ) → r ≡ variants.Dirty address flag pages place → ⊥)

module _ (directory sources page_file : List ℕ) (s : Tracked) where
  no_run : (r : Record) → NoRun r → (0, s) ≡ run does (restore_record directory sources page_file r) s
  unfolding run
  no_run (variants.State version pc cycles maximum reservation) n = refl
  no_run (variants.Registers first one two three four) n = refl
  no_run (variants.Source address flag id offset size) n = absurd (n.0 _ _ _ _ _ refl)
  no_run (variants.Dirty address flag pages place) n = absurd (n.1 _ _ _ _ refl)
  no_run variants.Bad n = refl

  module _ (r : Record) where
    pub other_record : ((address flag id offset size : ℕ) → r ≡ variants.Source address flag id offset size → ⊥)
        → ((address flag pages place : ℕ) → r ≡ variants.Dirty address flag pages place → ⊥)
        → (0, s) ≡ run does (restore_record directory sources page_file r) s
    other_record m n = no_run r (m, n)
