-- Reading step by step (docs/RULES.md, Reading step by step): how a walk starts, what a step answers, and what judging says.
use Rattle.std.specs.Prelude.{ℕ, ◌+◌, ◌-◌, ◌≡◌, Bool, List, length, ltb, eqb, Result, Ok, Err}
use Rattle.ground.specs.Choice.{pick, both}
use Rattle.refusal.specs.Answer.{Answer, given, refused, onward, outcome}
use Rattle.refusal.specs.Number.{number_of}
use Rattle.refusal.specs.declared.Refusal.{Refusal}
use Rattle.header.specs.Header.{token_of}
use Rattle.header.specs.declared.HeaderRaw.{HeaderRaw}
use Rattle.packet.specs.Limits.{max_store, max_options}
use Rattle.packet.specs.Packet.{in_datagram}
use Rattle.packet.specs.declared.OptionRecord.{OptionRecord}
use Rattle.packet.specs.declared.Range.{Range}
use Rattle.option_reading.specs.Option.{Place, ended, option, place_at, end}
use Rattle.reading.specs.Headed.{headed}
use Rattle.reading.specs.Reading.{longest, reading}
use Rattle.cursor.specs.declared.Cursor.{Cursor}
use Rattle.cursor.specs.declared.Start.{Start}
use Rattle.cursor.specs.declared.Step.{Step}
use Rattle.cursor.specs.declared.Step.TheVariants.{Option, Payload}

-- A header, and the cursor before the first option.
pub record Started : Type 0 where
  pub raw : HeaderRaw
  pub cursor : Cursor

-- The first cursor stands after the token, and has room for 128 options.
abbrev pub first : Bool → HeaderRaw → Started
first strict raw =
    record { raw = raw; cursor = record { strict = strict; number = 0; at = 4 + token_of raw; left = max_options } }

-- How a walk starts: the datagram is judged as reading judges it before the options, 10, 1, strict 7, 2, strict 8.
abbrev pub start_of : Bool → List ℕ → Answer Started
start_of strict s = onward (headed strict s) (λ raw. given (first strict raw))

-- What a step sees: an option, and the cursor after it; or the payload.
pub data Seen : Type 0 where
  passed : OptionRecord → Cursor → Seen
  rest : Range → Seen

-- The cursor after an option.
abbrev pub past : Cursor → OptionRecord → Cursor
past c r = record { strict = c.strict; number = r.number; at = end r; left = c.left - 1 }

-- The payload from a position to the end; a marker that ends the datagram gives strict 9.
unfoldable pub rest_at : Bool → List ℕ → Bool → ℕ → Answer Range
rest_at strict s marked payload =
    pick (both strict (both marked (eqb payload (length s)))) (refused 9) (given (in_datagram payload (length s - payload)))

-- What a step makes of what stands at its cursor: an option for which no room is left gives 6.
abbrev pub seen_at : List ℕ → Cursor → Place → Answer Seen
seen_at s c (ended marked payload) = onward (rest_at c.strict s marked payload) (λ p. given (rest p))
seen_at s c (option r) = pick (eqb c.left 0) (refused 6) (given (passed r (past c r)))

-- A step: a datagram over 70,000 bytes gives 10, and a position past its end 4, as a value that ends there does; else it is
-- what stands at the position. From a cursor that was started in the datagram neither of the two arises.
unfoldable pub step_of : List ℕ → Cursor → Answer Seen
step_of s c =
    pick (ltb max_store (length s)) (refused 10)
    (pick (ltb (length s) c.at) (refused 4) (onward (place_at (longest c.strict) s c.number c.at) (seen_at s c)))

-- What judging says: what refuses the reading, and no packet.
abbrev pub accepting : Bool → List ℕ → Answer (Unit {0})
accepting strict s = onward (reading strict s) (λ _. given tt)

-- The record of an option: its number, and the range of its value.
abbrev pub record_of : ℕ → Range → OptionRecord
record_of number value =
    record { number = number; home = value.home; spare = 0; start = value.start; len = value.len }

-- The answers of `start` and `step`.
abbrev pub start_read : Result Start Refusal → Answer Started
start_read (Ok x) = given (record { raw = x.raw; cursor = x.cursor })
start_read (Err e) = refused (number_of e)

abbrev pub step_read : Result Step Refusal → Answer Seen
step_read (Ok (Option number value next)) = given (passed (record_of number value) next)
step_read (Ok (Payload p)) = given (rest p)
step_read (Err e) = refused (number_of e)

-- What a start, a step and a judgement promise.
abbrev pub Starts : Bool → List ℕ → Result Start Refusal → Type 0
Starts strict s r = start_read r ≡ start_of strict s

abbrev pub StepsTo : List ℕ → Cursor → Result Step Refusal → Type 0
StepsTo s c r = step_read r ≡ step_of s c

abbrev pub Judges : Bool → List ℕ → Result (Unit {0}) Refusal → Type 0
Judges strict s r = outcome r ≡ accepting strict s
