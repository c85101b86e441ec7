-- A message code as text: class, one dot, detail, in decimal digits (RFC 7252, section 3).
use Rattle.std.specs.Prelude.{ℕ, ◌+◌, ◌*◌, ◌/◌, ◌%◌, List, [], ◌∷◌, take, drop, eqb, Result, Ok, Err}
use Rattle.ground.specs.Choice.{pick}
use Rattle.refusal.specs.Answer.{Answer, given, refused, onward}
use Rattle.refusal.specs.Number.{number_of}
use Rattle.decimal.specs.Decimal.{decimal_at}
use Rattle.refusal.specs.declared.Refusal.{Refusal}

-- A number as text, at most the limit: a plus sign, which may be left out, and one or more digits; anything else gives
-- BadText (15).
unfoldable pub numeral_at : ℕ → List ℕ → Answer ℕ
numeral_at most [] = refused 15
numeral_at most (b ∷ bs) = pick (eqb b 43) (decimal_at most bs) (decimal_at most (b ∷ bs))

-- Where the first dot stands: its index, or the length where there is none.
unfoldable pub dot_in : List ℕ → ℕ
dot_in [] = 0
dot_in (b ∷ bs) = pick (eqb b 46) 0 (dot_in bs + 1)

-- The code byte of a text: a class of at most 7 before the first dot, a detail of at most 31 after it; the class goes into the
-- high three bits, the detail into the low five. A text with no dot has nothing after it.
unfoldable pub code_in : List ℕ → Answer ℕ
code_in s =
    onward (numeral_at 7 (take (dot_in s) s)) (λ class.
    onward (numeral_at 31 (drop (dot_in s + 1) s)) (λ detail.
    given (class * 32 + detail)))

-- The text of a code byte: class, dot, two digits of detail.
abbrev pub code_text : ℕ → List ℕ
code_text b = (48 + b / 32) ∷ 46 ∷ (48 + b % 32 / 10) ∷ (48 + b % 32 % 10) ∷ []

-- The answer of reading a code from text.
abbrev pub code_of : Result ℕ Refusal → Answer ℕ
code_of (Ok b) = given b
code_of (Err e) = refused (number_of e)
