-- Bytes in hexadecimal as ASCII bytes: the digits of bytes, and the bytes of digits.
use Rattle.std.specs.Prelude.{ℕ, ◌+◌, ◌-◌, ◌*◌, ◌/◌, ◌%◌, Bool, true, List, [], ◌∷◌, ◌++◌, length, ltb, eqb, Option, Some, None}
use Rattle.ground.specs.Choice.{pick, both, within}
use Rattle.refusal.specs.Answer.{Answer, given, refused, onward, room_from}

-- A hexadecimal digit: `0` to `9`, then `a` to `f`.
abbrev pub hex_digit : ℕ → ℕ
hex_digit d = pick (ltb d 10) (48 + d) (97 + (d - 10))

-- The two digits of a byte.
abbrev pub hex_byte : ℕ → List ℕ
hex_byte b = hex_digit (b / 16) ∷ hex_digit (b % 16) ∷ []

-- Two digits for each byte.
abbrev pub hex_digits : List ℕ → List ℕ
hex_digits [] = []
hex_digits (b ∷ bs) = hex_byte b ++ hex_digits bs

-- Bytes in hexadecimal; a dash for no bytes.
abbrev pub hex : List ℕ → List ℕ
hex [] = 45 ∷ []
hex (b ∷ bs) = hex_digits (b ∷ bs)

-- The value of a digit, `0` to `9` and `a` to `f`; 16 for any other byte.
unfoldable pub digit_of : ℕ → ℕ
digit_of b = pick (within 48 57 b) (b - 48) (pick (within 97 102 b) (b - 97 + 10) 16)

-- A digit's value, where there is one: it is below 16.
abbrev pub digit_read : ℕ → Option ℕ
digit_read d = pick (ltb d 16) (Some d) None

-- Each byte is a digit.
abbrev pub all_digits : List ℕ → Bool
all_digits [] = true
all_digits (b ∷ bs) = both (ltb (digit_of b) 16) (all_digits bs)

-- The text is pairs of digits.
abbrev pub is_hex : List ℕ → Bool
is_hex text = both (all_digits text) (eqb (length text % 2) 0)

-- The bytes that pairs of digits stand for; a last digit with no other stands for none.
abbrev pub pairs : List ℕ → List ℕ
pairs [] = []
pairs (a ∷ []) = []
pairs (a ∷ b ∷ text) = (digit_of a * 16 + digit_of b) ∷ pairs text

-- The bytes of a hexadecimal text; any other text gives BadText (15).
abbrev pub unhex : List ℕ → Answer (List ℕ)
unhex text = pick (is_hex text) (given (pairs text)) (refused 15)

-- The length of the bytes of a text, for a place in an output of this length: BadText (15), then NoRoom (12).
abbrev pub unhex_into : ℕ → ℕ → List ℕ → Answer ℕ
unhex_into room at text = onward (unhex text) (λ bytes. room_from room at bytes (length bytes))
