-- The answers of the walk over a trace, in the words of the definitions: numbers for what the definitions give as lists.
use Rattle.std.specs.Prelude.{ℕ, ◌<◌, ◌≡◌, List, length, Result, Ok, Err}
use Rattle.ground.specs.Part.{part}
use Rattle.rfc.specs.Uint.{number}
use Rattle.refusal.specs.Answer.{Answer, given, refused, onward}
use Rattle.refusal.specs.Number.{number_of}
use Rattle.refusal.specs.declared.Refusal.{Refusal}
use Rattle.tracing.specs.TimedMessages.{TimedFound}
use Rattle.tracing.specs.declared.TimedStep.{TimedStep}

-- The time of a message, the length of its datagram, and the position after it.
pub record TimedExtent : Type 0 where
  pub time : ℕ
  pub len : ℕ
  pub next : ℕ

abbrev pub timed_read : Result TimedStep Refusal → Answer TimedExtent
timed_read (Ok s) = given (record { time = s.time; len = s.len; next = s.next })
timed_read (Err e) = refused (number_of e)

abbrev pub timed_extent : Answer TimedFound → Answer TimedExtent
timed_extent (given m) =
    given (record { time = m.timed.time; len = length m.timed.message.datagram; next = m.next })
timed_extent (refused k) = refused k

-- Whether there is a value.
abbrev pub whether : {A : Type 0} → Answer A → Answer (Unit {0})
whether a = onward a (λ _. given tt)

-- A number that was read from four bytes, and that it has 32 bits.
pub record FourAt (s : List ℕ) (at r : ℕ) : Type 0 where
  pub is : r ≡ number (part s at 4)
  pub small : r < 4294967296
