-- Decimal numbers as ASCII bytes: the digits of a number, and the number of digits.
use Rattle.std.specs.Prelude.{ℕ, zero, suc, ◌+◌, ◌-◌, ◌*◌, ◌/◌, ◌%◌, List, [], ◌∷◌, ◌++◌, ltb, leb, Option, Some, None}
use Rattle.ground.specs.Choice.{pick, within}
use Rattle.refusal.specs.Answer.{Answer, given, refused, onward}

-- The decimal digits of a number below 10 ^ places, with no leading zeros; zero is one digit.
unfoldable pub decimal_in : ℕ → ℕ → List ℕ
decimal_in zero n = []
decimal_in (suc places) n = pick (ltb n 10) ((48 + n) ∷ []) (decimal_in places (n / 10) ++ ((48 + n % 10) ∷ []))

-- The decimal digits of a number of 64 bits, of which there are at most 20.
abbrev pub decimal : ℕ → List ℕ
decimal n = decimal_in 20 n

-- A number already read, with one more digit after it; a byte that is no digit gives BadText (15).
abbrev pub digit_after : ℕ → ℕ → Answer ℕ
digit_after n b = pick (within 48 57 b) (given (n * 10 + (b - 48))) (refused 15)

-- The number that decimal digits stand for after a number already read.
unfoldable pub digits_from : ℕ → List ℕ → Answer ℕ
digits_from n [] = given n
digits_from n (b ∷ bs) = onward (digit_after n b) (λ m. digits_from m bs)

-- One or more digits, with any number of leading zeros.
abbrev pub digits : List ℕ → Answer ℕ
digits [] = refused 15
digits (b ∷ bs) = digits_from 0 (b ∷ bs)

-- A number that is at most the limit, or BadText (15).
abbrev pub at_most : ℕ → ℕ → Answer ℕ
at_most most n = pick (leb n most) (given n) (refused 15)

-- The number of a text, at most the limit.
abbrev pub decimal_at : ℕ → List ℕ → Answer ℕ
decimal_at most text = onward (digits text) (at_most most)

-- The answer of reading a number.
abbrev pub decimal_of : Option ℕ → Answer ℕ
decimal_of (Some n) = given n
decimal_of None = refused 15
