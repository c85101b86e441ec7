-- Texts that are codes and texts that are none, computed by the definitions, so that a slip in them shows.
use mathlib.Core.Path.{◌≡◌, refl}
use mathlib.Core.List.{[], ◌∷◌}
use Rattle.refusal.specs.Answer.{given, refused}
use Rattle.decimal.specs.Decimal.{digits_from}
use Rattle.code_text.specs.CodeText.{numeral_at, dot_in, code_in}

-- "2.05", "+2.+05", "2.5", "002.0005", "0.01", "7.31", "0.0".
codes : (code_in (0x32 ∷ 0x2E ∷ 0x30 ∷ 0x35 ∷ []) ≡ given 0x45) × (code_in (0x2B ∷ 0x32 ∷ 0x2E ∷ 0x2B ∷ 0x30 ∷ 0x35 ∷ []) ≡ given 0x45) × (code_in (0x32 ∷ 0x2E ∷ 0x35 ∷ []) ≡ given 0x45) × (code_in (0x30 ∷ 0x30 ∷ 0x32 ∷ 0x2E ∷ 0x30 ∷ 0x30 ∷ 0x30 ∷ 0x35 ∷ []) ≡ given 0x45) × (code_in (0x30 ∷ 0x2E ∷ 0x30 ∷ 0x31 ∷ []) ≡ given 0x01) × (code_in (0x37 ∷ 0x2E ∷ 0x33 ∷ 0x31 ∷ []) ≡ given 0xFF) × (code_in (0x30 ∷ 0x2E ∷ 0x30 ∷ []) ≡ given 0x00)
unfolding digits_from numeral_at dot_in code_in
codes = (refl, refl, refl, refl, refl, refl, refl)

-- A sign that is no single plus, or a byte that is no digit: "-0.1", "++2.5", " 2.5", "2.5 ", digits outside ASCII.
bad_signs : (code_in (0x2D ∷ 0x30 ∷ 0x2E ∷ 0x31 ∷ []) ≡ refused 15) × (code_in (0x2B ∷ 0x2B ∷ 0x32 ∷ 0x2E ∷ 0x35 ∷ []) ≡ refused 15) × (code_in (0x20 ∷ 0x32 ∷ 0x2E ∷ 0x35 ∷ []) ≡ refused 15) × (code_in (0x32 ∷ 0x2E ∷ 0x35 ∷ 0x20 ∷ []) ≡ refused 15) × (code_in (0xD9 ∷ 0xA2 ∷ 0x2E ∷ 0x35 ∷ []) ≡ refused 15)
unfolding digits_from numeral_at dot_in code_in
bad_signs = (refl, refl, refl, refl, refl)

-- No class, no detail, or not one dot: "", ".", "2.", ".5", "+.5", "2.+", "25", "2.5.", "2.5.1".
bad_parts : (code_in ([]) ≡ refused 15) × (code_in (0x2E ∷ []) ≡ refused 15) × (code_in (0x32 ∷ 0x2E ∷ []) ≡ refused 15) × (code_in (0x2E ∷ 0x35 ∷ []) ≡ refused 15) × (code_in (0x2B ∷ 0x2E ∷ 0x35 ∷ []) ≡ refused 15) × (code_in (0x32 ∷ 0x2E ∷ 0x2B ∷ []) ≡ refused 15) × (code_in (0x32 ∷ 0x35 ∷ []) ≡ refused 15) × (code_in (0x32 ∷ 0x2E ∷ 0x35 ∷ 0x2E ∷ []) ≡ refused 15) × (code_in (0x32 ∷ 0x2E ∷ 0x35 ∷ 0x2E ∷ 0x31 ∷ []) ≡ refused 15)
unfolding digits_from numeral_at dot_in code_in
bad_parts = (refl, refl, refl, refl, refl, refl, refl, refl, refl)

-- A class over 7 or a detail over 31, however long: "8.0", "2.32", "256.1", "4294967298.05".
bad_numbers_lem : (code_in (0x38 ∷ 0x2E ∷ 0x30 ∷ []) ≡ refused 15) × (code_in (0x32 ∷ 0x2E ∷ 0x33 ∷ 0x32 ∷ []) ≡ refused 15) × (code_in (0x32 ∷ 0x35 ∷ 0x36 ∷ 0x2E ∷ 0x31 ∷ []) ≡ refused 15) × (code_in (0x34 ∷ 0x32 ∷ 0x39 ∷ 0x34 ∷ 0x39 ∷ 0x36 ∷ 0x37 ∷ 0x32 ∷ 0x39 ∷ 0x38 ∷ 0x2E ∷ 0x30 ∷ 0x35 ∷ []) ≡ refused 15)
unfolding digits_from numeral_at dot_in code_in
bad_numbers_lem = (refl, refl, refl, refl)
