-- The steps of a context store, each done or refusing.
use Rattle.std.proofs.Common.{◌≡◌, ℕ, true, false, eqb, List, length, refl, ap, ◌∙◌}
use Rattle.std.specs.Int.{w64, to_le_bytes}
use Rattle.words.proofs.Std.{to_le-std}
use Rattle.program.specs.Program.{run}
use Rattle.program.proofs.Laws.{then_done, then_stop}
use Rattle.memory.specs.WXorX.{store_wide}
use Rattle.memory.specs.WXorX as wxorx
use Rattle.machine.specs.Fresh.{Tracked}
use Rattle.tracking.specs.Operations.{does, on_memory}
use Rattle.tracking.specs.Tracking.{track_pages, untrack_pages, store_tracked, replace, store_data}

-- store, track
module _ (s : Tracked) (a id offset : ℕ) (bytes : List ℕ) (n : ℕ) (t : Tracked)
    (e : (n, t) ≡ run does (on_memory (wxorx.store_bytes a bytes)) s) where
  pub bytes_stored : (r : ℕ × Tracked) → true ≡ eqb n 0 → r ≡ run does (track_pages a (length bytes) id offset) t
      → r ≡ run does (store_tracked a id offset bytes) s
  unfolding store_tracked
  bytes_stored r i q = then_done does _ _ s n t true r e i refl q

  pub bytes-refused : false ≡ eqb n 0 → (n, t) ≡ run does (store_tracked a id offset bytes) s
  unfolding store_tracked
  bytes-refused i = then_stop does _ (track_pages a (length bytes) id offset) s n t false e i refl

-- untrack, then these
module _ (s : Tracked) (a id offset : ℕ) (bytes : List ℕ) (n : ℕ) (t : Tracked)
    (e : (n, t) ≡ run does (untrack_pages a (length bytes)) s) where
  pub pages_untracked : (r : ℕ × Tracked) → true ≡ eqb n 0 → r ≡ run does (store_tracked a id offset bytes) t
      → r ≡ run does (replace a id offset bytes) s
  unfolding replace
  pages_untracked r i q = then_done does _ _ s n t true r e i refl q

  pub untrack-refused : false ≡ eqb n 0 → (n, t) ≡ run does (replace a id offset bytes) s
  unfolding replace
  untrack-refused i = then_stop does _ (store_tracked a id offset bytes) s n t false e i refl

-- the full length, then these
module _ (s : Tracked) (size_at full a id offset : ℕ) (bytes number : List ℕ) (l : number ≡ to_le_bytes w64 full) (n : ℕ) (t : Tracked)
    (e : (n, t) ≡ run does (on_memory (wxorx.store_bytes size_at number)) s) where
  as_number : (n, t) ≡ run does (on_memory (wxorx.store_wide 8 size_at full)) s
  unfolding store_wide
  as_number = e ∙ ap (λ (b : List ℕ). run does (on_memory (wxorx.store_bytes size_at b)) s) (l ∙ to_le-std 8 full)

  pub length-stored : (r : ℕ × Tracked) → true ≡ eqb n 0 → r ≡ run does (replace a id offset bytes) t
      → r ≡ run does (store_data size_at full a id offset bytes) s
  unfolding store_data
  length-stored r i q = then_done does _ _ s n t true r as_number i refl q

  pub length-refused : false ≡ eqb n 0 → (n, t) ≡ run does (store_data size_at full a id offset bytes) s
  unfolding store_data
  length-refused i = then_stop does _ (replace a id offset bytes) s n t false as_number i refl
