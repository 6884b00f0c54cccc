-- What is compared of tracked pages.
use Rattle.std.specs.Prelude.{ℕ, ◌≡◌, ◌<◌, List}
use Rattle.tracking.specs.Operations.{entry_in}

-- the pages below n, by the flags and the records of two machines
abbrev pub TrackedAlike : ℕ → List ℕ → List ℕ → List ℕ → List ℕ → Type 0
TrackedAlike n flags records flags2 records2 = (page : ℕ) → page < n → entry_in flags records page ≡ entry_in flags2 records2 page
