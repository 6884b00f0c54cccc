-- Worked examples at the widths 1, 2, 4 and 8.
use mathlib.Core.Path.{◌≡◌, refl}
use Prim.Native.Nat.{◌-◌, ◌^◌}
use mathlib.Core.List.{[], ◌∷◌}
use Rattle.words.specs.Bytes.{written}
use Rattle.words.specs.LittleEndian.{from_le, to_le}

one_read : from_le (0x7f ∷ []) ≡ 127
unfolding from_le
one_read = refl

-- a wider number is cut to its lowest byte
one_written : to_le 1 0x1234 ≡ 0x34 ∷ []
unfolding to_le
one_written = refl

two_read : from_le (0x34 ∷ 0x12 ∷ []) ≡ 4660
unfolding from_le
two_read = refl

two_written : to_le 2 4660 ≡ 0x34 ∷ 0x12 ∷ []
unfolding to_le
two_written = refl

four_read : from_le (0x78 ∷ 0x56 ∷ 0x34 ∷ 0x12 ∷ []) ≡ 305419896
unfolding from_le
four_read = refl

four-written : to_le 4 305419896 ≡ 0x78 ∷ 0x56 ∷ 0x34 ∷ 0x12 ∷ []
unfolding to_le
four-written = refl

eight_read : from_le (255 ∷ 255 ∷ 255 ∷ 255 ∷ 255 ∷ 255 ∷ 255 ∷ 255 ∷ []) ≡ 2 ^ 64 - 1
unfolding from_le
eight_read = refl

eight_written : to_le 8 (2 ^ 64 - 1) ≡ 255 ∷ 255 ∷ 255 ∷ 255 ∷ 255 ∷ 255 ∷ 255 ∷ 255 ∷ []
unfolding to_le
eight_written = refl

-- the second byte finds no room
at_the_end : written (1 ∷ 2 ∷ 3 ∷ []) 2 (to_le 2 4660) ≡ 1 ∷ 2 ∷ 0x34 ∷ []
unfolding written to_le
at_the_end = refl
