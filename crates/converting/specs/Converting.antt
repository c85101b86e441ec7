-- Converting a stream: its messages in the other form, or 19, or the first bad datagram's own refusal.
use Rattle.std.specs.Prelude.{ℕ, ◌+◌, ◌*◌, ◌≤◌, ◌≡◌, List, length}
use Rattle.refusal.specs.Answer.{Answer, given, onward}
use Rattle.stream.specs.declared.Form.{Form}
use Rattle.stream.specs.declared.Form.TheVariants.{Old, New}
use Rattle.stream.specs.Stream.{Frozen, stream_of}
use Rattle.stream.specs.Messages.{thawed}
use Rattle.thawing.specs.Thawing.{thawed_strictly}

abbrev pub other_form : Form → Form
other_form Old = New
other_form New = Old

-- The stream, in the other form, of the messages that a stream has.
abbrev pub converted : Form → List ℕ → Answer (List ℕ)
converted from s = onward (thawed_strictly from s) (λ l. given (stream_of (other_form from) l))

-- How many bytes a stream has, by how many messages it has, how many bytes their datagrams have together and how many chunks
-- these take: 20 a message, and 32 a chunk in the old form; in the new one a chunk beside the datagrams' own.
abbrev pub size_in : Form → ℕ → ℕ → ℕ → ℕ
size_in Old count bytes chunks = 20 * count + 32 * chunks
size_in New count bytes chunks = 20 * count + (bytes + chunks)

-- A stream that is one, with room for its messages in a form.
pub record Convertible (from to : Form) (s : List ℕ) (room : ℕ) : Type 0 where
  pub messages : List Frozen
  pub are : thawed from s ≡ given messages
  pub room_for : length (stream_of to messages) ≤ room
