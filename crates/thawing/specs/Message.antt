-- One message of a stream, taken out: its datagram copied to a place of an output, or judged by strict reading.
use Rattle.std.specs.Prelude.{ℕ, ◌≡◌, true, List, [], length, Result}
use Rattle.refusal.specs.Answer.{Answer, given, refused, onward, room_from, after}
use Rattle.refusal.specs.declared.Refusal.{Refusal}
use Rattle.reading.specs.Reading.{reading}
use Rattle.stream.specs.declared.Form.{Form}
use Rattle.stream.specs.declared.Step.{Step}
use Rattle.stream.specs.Messages.{Body, Found, message_at}
use Rattle.stream.specs.Answers.{Extent, step_read}

-- The bytes of a body, and of a message that was found; none where there is none.
abbrev pub body_bytes : Answer Body → List ℕ
body_bytes (given b) = b.bytes
body_bytes (refused k) = []

abbrev pub found_bytes : Answer Found → List ℕ
found_bytes (given m) = m.message.datagram
found_bytes (refused k) = []

abbrev pub extent_of : Found → Extent
extent_of m = record { len = length m.message.datagram; next = m.next }

-- The message at a position, for a place in an output of this length: 19, then NoRoom (12).
abbrev pub next_in : Form → List ℕ → ℕ → ℕ → ℕ → Answer Extent
next_in form s at room to = onward (message_at form s at) (λ m. room_from room to m.message.datagram (extent_of m))

-- What taking the message at a position promises: its length and the position after it; its datagram at the place.
pub record NextMessage (form : Form) (s : List ℕ) (at : ℕ) (old : List ℕ) (to : ℕ) (r : Result Step Refusal) (new : List ℕ) : Type 0 where
  pub answer : step_read r ≡ next_in form s at (length old) to
  pub output : new ≡ after (next_in form s at (length old) to) to (found_bytes (message_at form s at)) old

-- A datagram whose message ends before a position, judged: its length, or what strict reading refuses.
abbrev pub strict_before : List ℕ → ℕ → Answer Extent
strict_before d next = onward (reading true d) (λ p. given (record { len = length d; next = next }))

-- The message at a position, judged with its datagram: 19, then what strict reading refuses.
unfoldable pub strict_at : Form → List ℕ → ℕ → Answer Extent
strict_at form s at = onward (message_at form s at) (λ m. strict_before m.message.datagram m.next)
