-- Values of format uint (RFC 7252, section 3.2): zero is no bytes, the high byte is first, leading zero bytes are read.
use mathlib.Core.Path.{◌≡◌, refl}
use mathlib.Core.List.{[], ◌∷◌, map}
use Rattle.rfc.specs.Uint.{number, uint, without_zeros}

-- Numbers, and their shortest bytes.
written : map (uint 4) (0 ∷ 1 ∷ 60 ∷ 255 ∷ 256 ∷ 0x10203 ∷ 0xFF000000 ∷ 0xFFFFFFFF ∷ []) ≡ ([] ∷ (1 ∷ []) ∷ (0x3C ∷ []) ∷ (0xFF ∷ []) ∷ (1 ∷ 0 ∷ []) ∷ (1 ∷ 2 ∷ 3 ∷ []) ∷ (0xFF ∷ 0 ∷ 0 ∷ 0 ∷ []) ∷ (0xFF ∷ 0xFF ∷ 0xFF ∷ 0xFF ∷ []) ∷ [])
unfolding uint
written = refl

-- The highest number of each width.
widths : (uint 0 0 ≡ []) × (uint 1 0xFF ≡ (0xFF ∷ [])) × (uint 2 0xFFFF ≡ (0xFF ∷ 0xFF ∷ [])) × (uint 3 0xFFFFFF ≡ (0xFF ∷ 0xFF ∷ 0xFF ∷ []))
unfolding uint
widths = (refl, refl, refl, refl)

-- Values, and the numbers that they stand for.
read : map number ([] ∷ (0 ∷ []) ∷ (0x3C ∷ []) ∷ (0 ∷ 0x3C ∷ []) ∷ (0x3C ∷ 0 ∷ []) ∷ (1 ∷ 2 ∷ 3 ∷ []) ∷ (0xFF ∷ 0xFF ∷ 0xFF ∷ 0xFF ∷ []) ∷ []) ≡ (0 ∷ 0 ∷ 60 ∷ 60 ∷ 15360 ∷ 0x10203 ∷ 0xFFFFFFFF ∷ [])
read = refl

-- Values without their leading zero bytes; no other zero byte goes.
shortened : map without_zeros ([] ∷ (0 ∷ 0 ∷ []) ∷ (0 ∷ 0 ∷ 0x3C ∷ []) ∷ (0x3C ∷ 0 ∷ []) ∷ (0 ∷ 1 ∷ 0 ∷ 2 ∷ []) ∷ []) ≡ ([] ∷ [] ∷ (0x3C ∷ []) ∷ (0x3C ∷ 0 ∷ []) ∷ (1 ∷ 0 ∷ 2 ∷ []) ∷ [])
shortened = refl
