-- Padded numbers: how many leading zero bytes a uint is read with (RFC 7252 3.2). The rule, once over the width, and who hands
-- the count on.
use Rattle.std.specs.Prelude.{ℕ, ◌+◌, ◌^◌, ◌<◌, ◌≤◌, min, ◌≡◌, ◌↔◌, List, ltb, length, take, Result, Ok, Err, Some, None, Option}
use Rattle.ground.specs.Choice.{pick}
use Rattle.ground.specs.Part.{Bytes}
use Rattle.rfc.specs.Uint.{number, uint}
use Rattle.rfc.specs.Block.{Block}
use Rattle.refusal.specs.Answer.{Answer, given, refused, onward, written, fitted, after}
use Rattle.refusal.specs.declared.Refusal.{Refusal}
use Rattle.option_value.specs.Uint.{Padded, with_zeros, leading_zeros, ReadsUint, Pads, uint_of, read_value}
use Rattle.block_value.specs.Answers.{uint_in, block_read}
use Rattle.block_value.specs.Plain.{ReadsPlain}
use Rattle.block_value.specs.Strict.{ReadsStrict}
use Rattle.block_value.specs.declared.BlockRead.{BlockRead}
use Rattle.packet.specs.Packet.{Stores, records_of, of_number, value_of}
use Rattle.packet.specs.declared.Packet.{Packet}
use Rattle.typed_options.specs.Getters.{on_first, observed, GetsFormat, GetsObserve}
use Rattle.typed_options.specs.declared.ContentFormat.{ContentFormat}
use Rattle.typed_options.specs.declared.Observe.{Observe}
use Rattle.guarantees.specs.Apart.{TellsApart}

-- A reader gives a number and a count exactly where the rule holds of them: the value has at most `width` bytes, and is so many
-- zero bytes and then the shortest bytes of the number.
abbrev pub Counts : ℕ → Answer (Padded ℕ) → List ℕ → Type 0
Counts width a bs = (p : Padded ℕ) → (a ≡ given p) ↔ Pads width bs p

-- So it is at every width, which is 8 at most.
abbrev pub EveryWidth : Type 0
EveryWidth = (width : ℕ) (bs : List ℕ) (a : Answer (Padded ℕ)) → Bytes bs → ReadsUint width bs a → Counts (min width 8) a bs

-- The four widths that have a type.
abbrev pub Width : ℕ → {R : Type 0} → (R → Answer (Padded ℕ)) → Type 0
Width width {R} told = (bs : List ℕ) (r : R) → Bytes bs → ReadsUint width bs (told r) → Counts width (told r) bs

pub record FourWidths : Type 0 where
  pub one : Width 1 read_value
  pub two : Width 2 read_value
  pub four : Width 4 read_value
  pub eight : Width 8 read_value

-- The rule holds of one number and one count only.
abbrev pub OneCount : Type 0
OneCount = (width : ℕ) (bs : List ℕ) (p q : Padded ℕ) → Pads width bs p → Pads width bs q → p ≡ q

-- A value's length is the count and the shortest length.
abbrev pub LengthCounted : Type 0
LengthCounted = (width : ℕ) (bs : List ℕ) (p : Padded ℕ) → Pads width bs p → length bs ≡ p.zeros + length (uint width p.value)

-- A value as a writer leaves it in its output has the count 0.
abbrev pub NoneWritten : Type 0
NoneWritten =
    (width n : ℕ) (old : List ℕ) (r : Result ℕ Refusal) (new : List ℕ) (len : ℕ) (a : Answer (Padded ℕ)) → width ≤ 8 → n < 256 ^ width
    → written r ≡ fitted (length old) (uint width n) → new ≡ after (fitted (length old) (uint width n)) 0 (uint width n) old
    → r ≡ Ok len → ReadsUint width (take len new) a → a ≡ given (with_zeros 0 n)

-- The number alone is the value's, and only too many bytes are refused, whatever the count is.
abbrev pub SameNumber : Type 0
SameNumber =
    (width : ℕ) (bs : List ℕ) (a : Answer (Padded ℕ)) → ReadsUint width bs a
    → onward a (λ p. given p.value) ≡ pick (ltb (min width 8) (length bs)) (refused 13) (given (number bs))

-- A block reader hands the count on: the rule holds of the block's number, at two bytes plain and at three strict.
abbrev pub BlocksCount : Type 0
BlocksCount =
    (bs : List ℕ) (r : Result BlockRead Refusal) (p : Padded Block) → Bytes bs → block_read r ≡ given p
    → (ReadsPlain bs r → Pads 2 bs (uint_in p)) × (ReadsStrict bs r → Pads 3 bs (uint_in p))

-- The leading zeros of the first value of an option number: 0 where there is none, or it has more bytes than the width.
abbrev pub first_zeros : ℕ → ℕ → Stores → Packet → ℕ
first_zeros number width s p =
    on_first (of_number number (records_of p)) 0 (λ r. pick (ltb width (length (value_of s r))) 0 (leading_zeros (value_of s r)))

-- The count that a getter answers: beside none too, and 0 where Observe is absent or refused.
abbrev pub format_zeros : ContentFormat → ℕ
format_zeros f = f.zeros

abbrev pub observe_zeros : Result (Option Observe) Refusal → ℕ
observe_zeros (Ok (Some o)) = o.zeros
observe_zeros (Ok None) = 0
observe_zeros (Err e) = 0

-- A getter hands the count of the first value on, listed or not.
abbrev pub GettersCount : Type 0
GettersCount =
    (s : Stores) (p : Packet)
    → ((r : ContentFormat) → GetsFormat s p r → format_zeros r ≡ first_zeros 12 2 s p)
    × ((r : Result (Option Observe) Refusal) → GetsObserve s p r → observe_zeros r ≡ first_zeros 6 4 s p)

-- Every definition that a promise of uints, or of the value of Observe, tells its answer by tells answers apart.
pub record ToldApart : Type 0 where
  pub uints : TellsApart uint_of
  pub values : TellsApart read_value
  pub observe_values : TellsApart observed
