-- A loop of steps: what is left of it comes to what the whole does.
use Rattle.std.proofs.Common.{◌≡◌, ℕ, suc, ◌+◌, true, false, eqb, refl, ◌∙◌}
use Rattle.program.specs.Program.{run, each}
use Rattle.program.proofs.Laws.{each_none, each_turn, each-stop}
use Rattle.machine.specs.Fresh.{Tracked}
use Rattle.tracking.specs.Operations.{Call, does}

-- n steps from p on come to what all come to with what was lent at entry
abbrev pub Left : (ℕ → Call ℕ) → Tracked → ℕ → ℕ → Tracked → ℕ → ℕ → Type 0
Left g s₀ n₀ p₀ s n p = run does (each g n p) s ≡ run does (each g n₀ p₀) s₀

module _ (g : ℕ → Call ℕ) (s₀ : Tracked) (n₀ p₀ : ℕ) (s : Tracked) (n p : ℕ) (w : Left g s₀ n₀ p₀ s n p) where
  -- none is left
  pub left_none : n ≡ 0 → (0, s) ≡ run does (each g n₀ p₀) s₀
  left_none e = each_none does g _ n p e ∙ w

  module _ (i : ℕ) (e : n ≡ suc i) (t : Tracked) where
    -- a step that refuses
    pub left-stop : (k : ℕ) → (k, t) ≡ run does (g p) s → false ≡ eqb k 0 → (k, t) ≡ run does (each g n₀ p₀) s₀
    left-stop k q b = each-stop does g _ n p i e k _ false q b refl ∙ w

    -- a step that is done
    pub left-turn : (0, t) ≡ run does (g p) s → Left g s₀ n₀ p₀ t i (p + 1)
    left-turn q = each_turn does g _ n p i e 0 _ true q refl refl ∙ w
