-- A context store whose lengths are right: nothing found, refused by a step, stored.
use Rattle.std.proofs.Common.{◌≡◌, ℕ, Bool, true, false, eqb, List, length, refl, ap, ◌∙◌}
use Rattle.program.specs.Program.{ret, run}
use Rattle.program.proofs.Laws.{after-done, after_stop}
use Rattle.machine.specs.Fresh.{Tracked}
use Rattle.tracking.specs.declared.sources.Place.{Place}
use Rattle.tracking.specs.Sources.{Data, found_at, missing, find_data, data_of}
use Rattle.tracking.specs.Operations.{does, fits_tracked}
use Rattle.tracking.specs.Tracking.{Stored, stored, not_stored, store_data, store_found, store_bytes}
use Rattle.tracking.proofs.Lengths.{fit-yes}

module _ (s : Tracked) (directory sources : List ℕ) (a id offset wanted size_at : ℕ) (b : Bool) (f : b ≡ fits_tracked s) (t : b ≡ true)
    (p : Data) (q : p ≡ find_data directory (length sources) id offset wanted) where
  -- what follows the lookup
  looked_up : (r : Stored × Tracked) → r ≡ run does (store_found p sources a id offset size_at) s
      → r ≡ run does (store_bytes directory sources a id offset wanted size_at) s
  unfolding store_bytes
  looked_up r h =
      fit-yes not_stored s _ b f r t (h ∙ ap (λ (d : Data). run does (store_found d sources a id offset size_at) s) q)

  pub store-missing : p ≡ missing → (not_stored 6, s) ≡ run does (store_bytes directory sources a id offset wanted size_at) s
  unfolding run store_found
  store-missing e = looked_up _ (rw e)

  -- data was found, and the steps answered n and left u
  module _ (x : Place) (e : p ≡ found_at x) (bytes : List ℕ) (l : bytes ≡ data_of sources (found_at x))
      (n : ℕ) (u : Tracked) (g : (n, u) ≡ run does (store_data size_at x.full a id offset bytes) s) where
    steps : (n, u) ≡ run does (store_data size_at x.full a id offset (data_of sources (found_at x))) s
    steps = rw l at g

    pub store-done : true ≡ eqb n 0
        → (stored x.count x.full, u) ≡ run does (store_bytes directory sources a id offset wanted size_at) s
    unfolding run store_found
    store-done i = looked_up _ (rw e (after-done does not_stored _ (ret (stored x.count x.full)) s n u true _ steps i refl refl))

    pub store-refused : false ≡ eqb n 0 → (not_stored n, u) ≡ run does (store_bytes directory sources a id offset wanted size_at) s
    unfolding run store_found
    store-refused i = looked_up _ (rw e (after_stop does not_stored _ (ret (stored x.count x.full)) s n u false steps i refl))
