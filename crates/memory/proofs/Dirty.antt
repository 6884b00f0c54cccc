-- The dirty bit of a flag: what sets it, what clears it, and what leaves it.
use Rattle.std.proofs.Common.{◌≡◌, ℕ, zero, suc, ◌-◌, ◌*◌, ◌/◌, ◌%◌, ◌<◌, min, max, refl, ap, ◌∙◌, arith}
use lib.Bits.{bit_and, bit_or, and_high, or_shr, or_mod, and_shr, and_mod, or_zero_l, and_zero_l}
use Rattle.memory.specs.Pages.{dirty, cleared}

-- whether a flag is dirty, as a number
abbrev pub bit : ℕ → ℕ
bit f = f / 4 % 2

pub dirty-bit : (f : ℕ) → bit_and f dirty ≡ bit f * 4
dirty-bit f = and_high f 1 2

or_bits : (a b : ℕ) → a < 2 → b < 2 → bit_or a b ≡ max a b
or_bits zero b h k = rw (or_zero_l b) (omega arith)
or_bits (suc zero) zero h k = refl
or_bits (suc zero) (suc zero) h k = refl
or_bits (suc zero) (suc (suc b)) h k = absurd (omega arith)
or_bits (suc (suc a)) b h k = absurd (omega arith)

and_bits : (a b : ℕ) → a < 2 → b < 2 → bit_and a b ≡ min a b
and_bits zero b h k = rw (and_zero_l b) (omega arith)
and_bits (suc zero) zero h k = refl
and_bits (suc zero) (suc zero) h k = refl
and_bits (suc zero) (suc (suc b)) h k = absurd (omega arith)
and_bits (suc (suc a)) b h k = absurd (omega arith)

-- the bit of an OR is the greater bit, that of an AND the lesser
pub bit-bit_or : (f g : ℕ) → bit (bit_or f g) ≡ max (bit f) (bit g)
bit-bit_or f g = ap (λ (x : ℕ). x % 2) (or_shr f g 2) ∙ or_mod (f / 4) (g / 4) 1 ∙ or_bits (bit f) (bit g) (omega arith) (omega arith)

pub bit-bit_and : (f g : ℕ) → bit (bit_and f g) ≡ min (bit f) (bit g)
bit-bit_and f g =
    ap (λ (x : ℕ). x % 2) (and_shr f g 2) ∙ and_mod (f / 4) (g / 4) 1 ∙ and_bits (bit f) (bit g) (omega arith) (omega arith)

-- the bit of a byte's complement
bit_not : (f : ℕ) → f < 256 → bit (255 - f) ≡ 1 - bit f
bit_not f h = omega arith

-- a flag with dirty set is dirty, one with dirty cleared is not
pub dirty-set : (f : ℕ) → bit_and (bit_or f dirty) dirty ≡ dirty
dirty-set f = omega (arith, dirty-bit (bit_or f dirty), bit-bit_or f dirty)

pub dirty-cleared : (f : ℕ) → bit_and (cleared f dirty) dirty ≡ 0
dirty-cleared f = omega (arith, dirty-bit (cleared f dirty), bit-bit_and f 251)

-- bits set leave no dirty flag clean
pub or_dirty : (f g : ℕ) → bit_and (bit_or f g) dirty ≡ 0 → bit_and f dirty ≡ 0
or_dirty f g e = omega (arith, dirty-bit f, dirty-bit (bit_or f g), bit-bit_or f g)

-- nor do other bits cleared
pub cleared-dirty : (f g : ℕ) → g < 256 → bit_and g dirty ≡ 0 → bit_and (cleared f g) dirty ≡ 0 → bit_and f dirty ≡ 0
cleared-dirty f g h c e =
    omega (arith, dirty-bit f, dirty-bit g, dirty-bit (cleared f g), bit-bit_and f (255 - g), bit_not g h)
