-- What is printed of a message or a refusal, a line for each part; `end` is the byte that ends a line.
use Rattle.std.specs.Prelude.{ℕ, List, [], ◌∷◌, ◌++◌}
use Rattle.rfc.specs.Message.{Message, Opt}
use Rattle.refusal.specs.Answer.{Answer, given, refused}
use Rattle.code_text.specs.CodeText.{code_text}
use Rattle.decimal.specs.Decimal.{decimal}
use Rattle.hexadecimal.specs.Hex.{hex}

-- The words, each with a space after it.
abbrev pub space : List ℕ
space = 32 ∷ []

abbrev pub head : List ℕ
head = 104 ∷ 101 ∷ 97 ∷ 100 ∷ space

abbrev pub token : List ℕ
token = 116 ∷ 111 ∷ 107 ∷ 101 ∷ 110 ∷ space

abbrev pub option : List ℕ
option = 111 ∷ 112 ∷ 116 ∷ 105 ∷ 111 ∷ 110 ∷ space

abbrev pub payload : List ℕ
payload = 112 ∷ 97 ∷ 121 ∷ 108 ∷ 111 ∷ 97 ∷ 100 ∷ space

abbrev pub refusal : List ℕ
refusal = 114 ∷ 101 ∷ 102 ∷ 117 ∷ 115 ∷ 101 ∷ 100 ∷ space

-- A word and a number after it.
abbrev pub numbered : List ℕ → ℕ → List ℕ
numbered word n = word ++ decimal n

-- A word, bytes in hexadecimal after it, and the end of the line.
abbrev pub bytes_line : ℕ → List ℕ → List ℕ → List ℕ
bytes_line end word bytes = word ++ hex bytes ++ (end ∷ [])

-- The head: version, type, code as text, id.
abbrev pub head_line : ℕ → ℕ → ℕ → ℕ → ℕ → List ℕ
head_line end version type code id =
    numbered head version ++ numbered space type ++ (space ++ code_text code) ++ numbered space id ++ (end ∷ [])

-- An option: number, value.
abbrev pub option_line : ℕ → ℕ → List ℕ → List ℕ
option_line end number value = numbered option number ++ bytes_line end space value

-- A line for each option, in their order.
abbrev pub option_lines : ℕ → List Opt → List ℕ
option_lines end [] = []
option_lines end (o ∷ os) = option_line end o.number o.value ++ option_lines end os

-- A message: head, token, each option, payload.
abbrev pub message_lines : ℕ → Message → List ℕ
message_lines end m =
    head_line end m.version m.type m.code m.id ++ bytes_line end token m.token ++ option_lines end m.options ++ bytes_line end payload m.payload

-- A refusal: its number.
abbrev pub refusal_line : ℕ → ℕ → List ℕ
refusal_line end k = numbered refusal k ++ (end ∷ [])

-- An answer: the message, or the refusal.
abbrev pub lines_of : ℕ → Answer (Unit {0}) → Message → List ℕ
lines_of end (given tt) m = message_lines end m
lines_of end (refused k) m = refusal_line end k
