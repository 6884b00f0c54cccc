-- The lengths of lent storage and records, as a test and as facts; a call where they are right, and where they are not.
use Rattle.std.proofs.Common.{◌≡◌, ℕ, ◌*◌, Bool, true, false, cond, sym, refl, ap, ◌∙◌, arith, eqb-true}
use Rattle.program.specs.Program.{ret, run}
use Rattle.memory.specs.declared.Memory.{Memory}
use Rattle.memory.specs.Storage.{Fitting, fits_lengths}
use Rattle.memory.proofs.Lengths.{fits-are}
use Rattle.machine.specs.Fresh.{Tracked, record_words, records_fit}
use Rattle.tracking.specs.Operations.{Call, does, fitting, fits_all, fits_tracked}

module _ (slots flags area records : ℕ) (m : Memory) where
  -- the memory's lengths, then the records'
  pub all_fit : (a b : Bool) → a ≡ fits_lengths slots flags area m → a ≡ true → b ≡ records_fit records flags
      → b ≡ fits_all slots flags area records m
  unfolding fits_all
  all_fit a b e t q = rw (← e, t) q

  pub none_fit : (a : Bool) → a ≡ fits_lengths slots flags area m → a ≡ false → a ≡ fits_all slots flags area records m
  unfolding fits_all
  none_fit a e t = t ∙ rw (← e, t)

  -- what a test of all told
  module _ (b : Bool) (e : b ≡ fits_all slots flags area records m) (t : b ≡ true) where
    both : (fits_lengths slots flags area m ≡ true) × (records_fit records flags ≡ true)
    unfolding fits_all
    both = go (fits_lengths slots flags area m) (sym e ∙ t)
      where
        go : (a : Bool) → cond a (records_fit records flags) false ≡ true → (a ≡ true) × (records_fit records flags ≡ true)
        go true q = (refl, q)
        go false q = absurd (let z : ◌≡◌ {A = ℕ} 0 1 = cc in omega arith)

    pub memory-told : Fitting slots flags area m
    memory-told = fits-are slots flags area m both.0

    pub records-told : records ≡ record_words * flags
    unfolding records_fit
    records-told = eqb-true _ _ both.1

-- ---- "Check lengths (9) first in every call."
module _ {A : Type 0} (refused : ℕ → A) (s : Tracked) (g : Call A) (b : Bool) (e : b ≡ fits_tracked s) where
  pub fit_not : b ≡ false → (refused 9, s) ≡ run does (fitting refused g) s
  unfolding run fitting
  fit_not t = ap (λ (b : Bool). run does (cond b g (ret (refused 9))) s) (sym t ∙ e)

  pub fit-yes : (z : A × Tracked) → b ≡ true → z ≡ run does g s → z ≡ run does (fitting refused g) s
  unfolding run fitting
  fit-yes z t q = q ∙ ap (λ (b : Bool). run does (cond b g (ret (refused 9))) s) (sym t ∙ e)
