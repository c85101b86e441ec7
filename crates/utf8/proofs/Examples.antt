-- Texts and bytes that are none, as the walk judges them: examples of RFC 3629, section 7, and characters that are cut off.
use Prim.Native.Nat.{ℕ}
use mathlib.Core.Path.{◌≡◌, refl}
use mathlib.Core.Bool.{true, false}
use mathlib.Core.List.{List, [], ◌∷◌, map}
use Rattle.rfc.specs.Text.{rows}
use Rattle.utf8.specs.Walk.{text, text_from}

-- No bytes; "A≢Α."; a character above FFFF after a byte order mark.
are : map text ([] ∷ (0x41 ∷ 0xE2 ∷ 0x89 ∷ 0xA2 ∷ 0xCE ∷ 0x91 ∷ 0x2E ∷ []) ∷ (0xEF ∷ 0xBB ∷ 0xBF ∷ 0xF0 ∷ 0xA3 ∷ 0x8E ∷ 0xB4 ∷ []) ∷ []) ≡ (true ∷ true ∷ true ∷ [])
unfolding text_from rows
are = refl

-- Characters that are cut off by the end or by another, and the overlong "/../" of section 10.
cut_off : List (List ℕ)
cut_off =
    (0xC2 ∷ [])
    ∷ (0xE2 ∷ 0x89 ∷ [])
    ∷ (0xF1 ∷ 0x80 ∷ 0x80 ∷ [])
    ∷ (0xE2 ∷ 0x89 ∷ 0x41 ∷ [])
    ∷ (0x41 ∷ 0xC2 ∷ 0x80 ∷ 0x80 ∷ [])
    ∷ (0x2F ∷ 0xC0 ∷ 0xAE ∷ 0x2E ∷ 0x2F ∷ [])
    ∷ []

are_not : map text cut_off ≡ (false ∷ false ∷ false ∷ false ∷ false ∷ false ∷ [])
unfolding cut_off text_from rows
are_not = refl
