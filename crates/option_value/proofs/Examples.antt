-- Worked examples, computed by the definitions: leading zeros count as bytes and are counted, and the width itself is not too
-- many.
use mathlib.Core.Path.{◌≡◌, refl}
use mathlib.Core.List.{[], ◌∷◌, map}
use Rattle.refusal.specs.Answer.{given, refused}
use Rattle.option_value.specs.Uint.{with_zeros, leading_zeros, read_uint}

widths : (read_uint 1 (0 ∷ 0 ∷ []) ≡ refused 13) × (read_uint 2 (0 ∷ 0x3C ∷ []) ≡ given (with_zeros 1 60)) × (read_uint 1 (0x3C ∷ []) ≡ given (with_zeros 0 60)) × (read_uint 1 [] ≡ given (with_zeros 0 0))
unfolding read_uint
widths = (refl, refl, refl, refl)

eight : (read_uint 8 (0xFF ∷ 0xFF ∷ 0xFF ∷ 0xFF ∷ 0xFF ∷ 0xFF ∷ 0xFF ∷ 0xFF ∷ []) ≡ given (with_zeros 0 18446744073709551615))
    × (read_uint 8 (0 ∷ 0 ∷ 0 ∷ 0 ∷ 0 ∷ 0 ∷ 1 ∷ 0xFF ∷ []) ≡ given (with_zeros 6 511))
    × (read_uint 9 (0 ∷ 0 ∷ 0 ∷ 0 ∷ 0 ∷ 0 ∷ 0 ∷ 0 ∷ 0 ∷ []) ≡ refused 13)
unfolding read_uint
eight = (refl, refl, refl)

-- All of a value that is zeros, and nothing after the first other byte.
zeros : map leading_zeros ([] ∷ (0 ∷ []) ∷ (0 ∷ 0 ∷ []) ∷ (0 ∷ 1 ∷ 0 ∷ []) ∷ (1 ∷ 0 ∷ []) ∷ []) ≡ (0 ∷ 1 ∷ 2 ∷ 1 ∷ 0 ∷ [])
zeros = refl
