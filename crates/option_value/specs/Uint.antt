-- What reading a value of format uint answers, and the answers of its readers in the words of the promises.
use Rattle.std.specs.Prelude.{ℕ, suc, ◌^◌, ◌<◌, ◌≤◌, min, ◌≡◌, List, [], ◌∷◌, ◌++◌, length, replicate, eqb, ltb, Result, Ok, Err}
use Rattle.ground.specs.Choice.{pick}
use Rattle.rfc.specs.Uint.{number, uint}
use Rattle.refusal.specs.Number.{number_of}
use Rattle.refusal.specs.declared.Refusal.{Refusal}
use Rattle.refusal.specs.Answer.{Answer, given, refused}
use Rattle.option_value.specs.declared.Uint.{Uint}
use Rattle.option_value.specs.declared.Padded.{Padded as Read}

-- What a value was read as, and how many leading zero bytes it has.
pub record Padded (A : Type 0) : Type 0 where
  pub value : A
  pub zeros : ℕ

abbrev pub with_zeros : {A : Type 0} → ℕ → A → Padded A
with_zeros z a = record { value = a; zeros = z }

-- How many zero bytes a value begins with: all of them where it has no other byte.
abbrev pub leading_zeros : List ℕ → ℕ
leading_zeros [] = 0
leading_zeros (b ∷ bs) = pick (eqb b 0) (suc (leading_zeros bs)) 0

-- The number of a value, and its leading zero bytes.
abbrev pub padded : List ℕ → Padded ℕ
padded bs = with_zeros (leading_zeros bs) (number bs)

-- Reading takes at most `width` bytes, and never more than 8, which is all that a number here holds: more is BadUint (13),
-- whatever the bytes are. Leading zero bytes are read (RFC 7252 3.2), and counted.
unfoldable pub read_uint : ℕ → List ℕ → Answer (Padded ℕ)
read_uint width bs = pick (ltb (min width 8) (length bs)) (refused 13) (given (padded bs))

-- The promise of a reader of a width.
abbrev pub ReadsUint : ℕ → List ℕ → Answer (Padded ℕ) → Type 0
ReadsUint width bs a = a ≡ read_uint width bs

-- The rule, over the width: a value of at most `width` bytes is so many zero bytes and then the shortest bytes of its number.
pub record Pads (width : ℕ) (bs : List ℕ) (p : Padded ℕ) : Type 0 where
  pub short : length bs ≤ width
  pub room : p.value < 256 ^ width
  pub bytes : bs ≡ replicate p.zeros 0 ++ uint width p.value

-- The answer of reading a uint.
abbrev pub uint_of : Result Uint Refusal → Answer (Padded ℕ)
uint_of (Ok u) = given (with_zeros u.zeros u.number)
uint_of (Err e) = refused (number_of e)

-- The answer of reading a value of a width, by the number that a value of its type is.
abbrev pub read_by : {T : Type 0} → (T → ℕ) → Result (Read T) Refusal → Answer (Padded ℕ)
read_by number (Ok r) = given (with_zeros r.zeros (number r.value.0))
read_by number (Err e) = refused (number_of e)

-- The answer of reading a value of 1, 2, 4 or 8 bytes: a value of each of those types is its number.
abbrev pub read_value : Result (Read ℕ) Refusal → Answer (Padded ℕ)
read_value = read_by (λ n. n)
