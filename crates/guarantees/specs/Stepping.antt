-- Reading step by step: what a caller who starts a cursor and steps over a datagram gets, beside what the readers answer, in both
-- modes.
use Rattle.std.specs.Prelude.{ℕ, ◌≤◌, ◌≡◌, Bool, List, length, Result, Ok, Err}
use Rattle.ground.specs.Part.{Bytes}
use Rattle.refusal.specs.Answer.{Answer, given, onward, beside}
use Rattle.refusal.specs.declared.Refusal.{Refusal}
use Rattle.packet.specs.Packet.{new_packet}
use Rattle.packet.specs.declared.Packet.{Packet}
use Rattle.packet.specs.declared.OptionRecord.{OptionRecord}
use Rattle.packet.specs.declared.Range.{Range}
use Rattle.reading.specs.Reading.{decoded, FromBytes}
use Rattle.cursor.specs.Cursor.{record_of, start_read, step_read, Starts, StepsTo, Judges}
use Rattle.cursor.specs.Walk.{collected, stepping, Run, Passes}
use Rattle.cursor.specs.declared.Cursor.{Cursor}
use Rattle.cursor.specs.declared.Start.{Start}
use Rattle.cursor.specs.declared.Step.TheVariants.{Option}
use Rattle.guarantees.specs.Apart.{TellsApart}
use Rattle.guarantees.specs.Refusals.{ended}

-- Reading is the fold of the steps: a start and 129 steps or more give every packet that is read, and every refusal.
abbrev pub ReadsByStepping : Type 0
ReadsByStepping =
    (strict : Bool) (s : List ℕ) → Bytes s → (d : Result Packet Refusal) → FromBytes strict s d → (steps : ℕ) → 129 ≤ steps
    → decoded d ≡ beside new_packet (stepping steps strict s)

-- A caller that starts a cursor, steps until it is told to stop and keeps what it passed has the packet that is read, or the
-- refusal.
abbrev pub AnyLoopReads : Type 0
AnyLoopReads =
    (strict : Bool) (s : List ℕ) → Bytes s → (d : Result Packet Refusal) → FromBytes strict s d
    → (start : Start) → Starts strict s (Ok start)
    → (rs : List OptionRecord) (a : Answer Range) → Run s start.cursor rs a
    → decoded d ≡ beside new_packet (onward a (λ p. given (collected start.raw (record { records = rs; payload = p }))))

-- Where the start is refused, reading is refused with the same.
abbrev pub UnstartedIsRefused : Type 0
UnstartedIsRefused =
    (strict : Bool) (s : List ℕ) → Bytes s → (d : Result Packet Refusal) → FromBytes strict s d
    → (e : Refusal) → Starts strict s (Err e) → d ≡ Err e

-- A step past an option stands after it and has less room, whatever the cursor was: so every loop of steps ends.
abbrev pub StepsFall : Type 0
StepsFall =
    (s : List ℕ) (c : Cursor) (number : ℕ) (value : Range) (next : Cursor) → StepsTo s c (Ok (Option number value next))
    → Passes s c (record_of number value) next

-- It passes no more options than the cursor has room for: 128 from a start.
abbrev pub StepsAreFew : Type 0
StepsAreFew = (s : List ℕ) (c : Cursor) (rs : List OptionRecord) (a : Answer Range) → Run s c rs a → length rs ≤ c.left

abbrev pub StartsWith128 : Type 0
StartsWith128 = (strict : Bool) (s : List ℕ) (start : Start) → Starts strict s (Ok start) → start.cursor.left ≡ 128

-- A datagram that is only judged has the outcome of reading it.
abbrev pub JudgesAsReading : Type 0
JudgesAsReading =
    (strict : Bool) (s : List ℕ) (d : Result Packet Refusal) → FromBytes strict s d → (r : Result (Unit {0}) Refusal) → Judges strict s r → r ≡ ended d

-- Every definition that a promise of a cursor tells its answer by tells answers apart.
pub record ToldApart : Type 0 where
  pub starts : TellsApart start_read
  pub steps : TellsApart step_read
