-- Traces: the bytes of a list of messages, each with the time at which it came, in either form of a freeze stream.
use Rattle.std.specs.Prelude.{ℕ, ◌/◌, ◌%◌, ◌<◌, List, [], ◌∷◌, ◌++◌, map}
use Rattle.stream.specs.declared.Form.{Form}
use Rattle.stream.specs.Stream.{Frozen, Sized, message_of}

-- A message of a trace: the time at which it came, in seconds, and the message.
pub record Timed : Type 0 where
  pub time : ℕ
  pub message : Frozen

-- What a list keeps to: times of 32 bits, and messages that a freeze stream can have.
abbrev pub AllTimed : List Timed → Type 0
AllTimed [] = Unit {0}
AllTimed (m ∷ l) = ((m.time < 4294967296) × Sized m.message) × AllTimed l

-- The record of a time: kind 8 and its four bytes, high byte first.
abbrev pub time_of : ℕ → List ℕ
time_of t = 8 ∷ (t / 16777216) ∷ (t / 65536 % 256) ∷ (t / 256 % 256) ∷ (t % 256) ∷ []

-- A trace: the messages one after the other, before each its time.
abbrev pub trace_of : Form → List Timed → List ℕ
trace_of form [] = []
trace_of form (m ∷ l) = time_of m.time ++ (message_of form m.message ++ trace_of form l)

-- The messages of a list, without their times.
abbrev pub messages_of : List Timed → List Frozen
messages_of l = map (λ m. m.message) l
