-- The lengths of lent storage, as a test and as facts; a call where they are right, and where they are not.
use Rattle.std.proofs.Common.{◌≡◌, ℕ, Bool, true, false, cond, sym, refl, ap, ◌∙◌, arith, eq-eqb, eqb-true, le-leb, leb-true}
use Rattle.program.specs.Program.{ret, run}
use Rattle.memory.specs.declared.Memory.{Memory}
use Rattle.memory.specs.Storage.{State, Fitting, fits_lengths, fits}
use Rattle.memory.specs.Operations.{Call, does, fitting}
use Rattle.memory.specs.Inner.{Kept}

both : (a b : Bool) → cond a b false ≡ true → (a ≡ true) × (b ≡ true)
both true b e = (refl, e)
both false b e = (e, absurd (let z : ◌≡◌ {A = ℕ} 0 1 = cc in omega arith))

is_false : (b : Bool) → (b ≡ true → ⊥) → b ≡ false
is_false true n = absurd (n refl)
is_false false n = refl

module _ (slots flags area : ℕ) (m : Memory) where
  pub fits-yes : Fitting slots flags area m → fits_lengths slots flags area m ≡ true
  unfolding fits_lengths
  fits-yes f =
      simp (eq-eqb _ _ f.whole, le-leb _ _ f.small, eq-eqb _ _ f.slots_are, eq-eqb _ _ f.flags_are, eq-eqb _ _ f.area_whole, le-leb _ _ f.area_small, le-leb _ _ f.used_in)

  pub fits-are : fits_lengths slots flags area m ≡ true → Fitting slots flags area m
  unfolding fits_lengths
  fits-are e0 =
      let p1 = both _ _ e0 in
      let p2 = both _ _ p1.1 in
      let p3 = both _ _ p2.1 in
      let p4 = both _ _ p3.1 in
      let p5 = both _ _ p4.1 in
      let p6 = both _ _ p5.1 in
      record {
        whole = eqb-true _ _ p1.0;
        small = leb-true _ _ p2.0;
        slots_are = eqb-true _ _ p3.0;
        flags_are = eqb-true _ _ p4.0;
        area_whole = eqb-true _ _ p5.0;
        area_small = leb-true _ _ p6.0;
        used_in = leb-true _ _ p6.1;
      }

  pub fits_not : (Fitting slots flags area m → ⊥) → false ≡ fits_lengths slots flags area m
  fits_not n = sym (is_false _ (λ e. n (fits-are e)))

  -- what a test of it told
  pub fits_told : (b : Bool) → b ≡ fits_lengths slots flags area m → b ≡ true → Fitting slots flags area m
  fits_told b e t = fits-are (sym e ∙ t)

  -- a store keeps the lengths right
  pub fits_kept : (n : Memory) → Fitting slots flags area m → Kept area m n → Fitting slots flags area n
  fits_kept n f k =
      let z = k.size_kept in
      record {
        whole = rw z f.whole;
        small = rw z f.small;
        slots_are = rw z f.slots_are;
        flags_are = rw z f.flags_are;
        area_whole = f.area_whole;
        area_small = f.area_small;
        used_in = k.used_in;
      }

-- ---- "Check lengths (9) first in every call."
module _ {A : Type 0} (refused : ℕ → A) (s : State) (g : Call A) (b : Bool) (e : b ≡ fits s) where
  pub fit_not : b ≡ false → (refused 9, s) ≡ run does (fitting refused g) s
  unfolding run fitting
  fit_not t = ap (λ (b : Bool). run does (cond b g (ret (refused 9))) s) (sym t ∙ e)

  pub fit-yes : (z : A × State) → b ≡ true → z ≡ run does g s → z ≡ run does (fitting refused g) s
  unfolding run fitting
  fit-yes z t q = q ∙ ap (λ (b : Bool). run does (cond b g (ret (refused 9))) s) (sym t ∙ e)
