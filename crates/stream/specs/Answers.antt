-- The answers of the walk over a stream, in the words of the definitions: numbers for what the definitions give as lists.
use Rattle.std.specs.Prelude.{ℕ, List, length, ltb, Option, Some, None, Result, Ok, Err}
use Rattle.ground.specs.Choice.{pick}
use Rattle.refusal.specs.Answer.{Answer, given, refused}
use Rattle.refusal.specs.Number.{number_of}
use Rattle.refusal.specs.declared.Refusal.{Refusal}
use Rattle.packet.specs.Limits.{full_size}
use Rattle.stream.specs.Stream.{Frozen, datagrams_of}
use Rattle.stream.specs.Messages.{Body, Found}
use Rattle.stream.specs.declared.Step.{Step}
use Rattle.stream.specs.declared.Tally.{Tally as Counted}

abbrev pub chunk_read : Option ℕ → Answer ℕ
chunk_read (Some n) = given n
chunk_read None = refused 19

-- The length of a datagram, and the position after its message.
pub record Extent : Type 0 where
  pub len : ℕ
  pub next : ℕ

abbrev pub step_read : Result Step Refusal → Answer Extent
step_read (Ok s) = given (record { len = s.len; next = s.next })
step_read (Err e) = refused (number_of e)

abbrev pub body_extent : Answer Body → Answer Extent
body_extent (given b) = given (record { len = length b.bytes; next = b.next })
body_extent (refused k) = refused k

abbrev pub extent : Answer Found → Answer Extent
extent (given m) = given (record { len = length m.message.datagram; next = m.next })
extent (refused k) = refused k

-- The lengths that a datagram may have.
unfoldable pub sized_extent : Extent → Answer Extent
sized_extent e = pick (ltb e.len 4) (refused 19) (pick (ltb full_size e.len) (refused 19) (given e))

-- How many messages, and how many bytes their datagrams have together.
pub record Tally : Type 0 where
  pub count : ℕ
  pub bytes : ℕ

abbrev pub judged : Result Counted Refusal → Answer Tally
judged (Ok t) = given (record { count = t.count; bytes = t.bytes })
judged (Err e) = refused (number_of e)

abbrev pub tally : Answer (List Frozen) → Answer Tally
tally (given l) = given (record { count = length l; bytes = length (datagrams_of l) })
tally (refused k) = refused k
