-- What stands before the token of a frame, as it is read: RFC 8323, section 3.2.
use Rattle.std.specs.Prelude.{ℕ, ◌+◌, ◌*◌, ◌/◌, ◌%◌, ◌<◌, ◌≤◌, ◌≡◌, List, length, take, get_or, ltb, eqb, Result, Ok, Err}
use Rattle.ground.specs.Choice.{pick}
use Rattle.refusal.specs.Answer.{Answer, given, refused}
use Rattle.refusal.specs.Number.{number_of}
use Rattle.refusal.specs.declared.Refusal.{Refusal}
use Rattle.framing.specs.declared.Head.{Head}
use Rattle.framing.specs.declared.HeadBytes.{HeadBytes}

-- How many extension bytes the nibble of a length calls for: none up to 12, one for 13, two for 14, four for 15.
unfoldable pub extra : ℕ → ℕ
extra nibble = pick (ltb nibble 13) 0 (pick (eqb nibble 13) 1 (pick (eqb nibble 14) 2 4))

-- The length that a nibble stands for: itself up to 12, else 13, 269 or 65805 more than its extension bytes say, high byte first.
unfoldable pub length_in : List ℕ → ℕ → ℕ
length_in f nibble =
    pick (ltb nibble 13) nibble
    (pick (eqb nibble 13) (13 + get_or f 1 0)
    (pick (eqb nibble 14) (269 + (get_or f 1 0 * 256 + get_or f 2 0))
    (65805 + (((get_or f 1 0 * 256 + get_or f 2 0) * 256 + get_or f 3 0) * 256 + get_or f 4 0))))

-- The head of a frame by its two nibbles, the length's and the token's. Where they call for more bytes or fewer than there are,
-- the frame is BadFrame (20).
unfoldable pub head_of : List ℕ → (nibble token : ℕ) → Answer Head
head_of f nibble token =
    pick (eqb (length f) (2 + extra nibble + token + length_in f nibble))
    (given (record { token_length = token; code = get_or f (1 + extra nibble) 0; token_at = 2 + extra nibble }))
    (refused 20)

-- The head of a frame: both nibbles stand in its first byte.
abbrev pub head_in : List ℕ → Answer Head
head_in f = head_of f (get_or f 0 0 / 16) (get_or f 0 0 % 16)

-- The answer of reading a head.
abbrev pub head_read : Result Head Refusal → Answer Head
head_read (Ok h) = given h
head_read (Err e) = refused (number_of e)

-- The token of a head lies within the frame, and its length is that of a nibble.
pub record Within (f : List ℕ) (h : Head) : Type 0 where
  pub token : h.token_at + h.token_length ≤ length f
  pub nibble : h.token_length < 16

-- Bytes that a head is made of: the first of an array of six.
pub record Begins (bytes : List ℕ) (h : HeadBytes) : Type 0 where
  pub is : take h.len h.bytes ≡ bytes
  pub short : h.len ≤ 6
  pub array : length h.bytes ≡ 6
