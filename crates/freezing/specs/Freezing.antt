-- Writing a message to a stream: the strict writer's refusals at a limit of 1,280 bytes, then NoRoom (12) by the stream; and the
-- stream afterwards.
use Rattle.std.specs.Prelude.{ℕ, ◌≡◌, true, List, length, Result}
use Rattle.refusal.specs.Answer.{Answer, given, onward, written, room_from, after}
use Rattle.refusal.specs.declared.Refusal.{Refusal}
use Rattle.packet.specs.Limits.{full_size}
use Rattle.packet.specs.Packet.{Stores}
use Rattle.packet.specs.declared.Packet.{Packet}
use Rattle.measuring.specs.declared.Limit.TheVariants.{Given}
use Rattle.writing.specs.Writing.{writing, bytes_written}
use Rattle.stream.specs.declared.Form.{Form}
use Rattle.stream.specs.Stream.{Frozen, message_of}

-- A message for a stream of this length, from a start: how many bytes it takes, or NoRoom (12).
abbrev pub frozen_in : Form → ℕ → ℕ → Frozen → Answer ℕ
frozen_in form room start m = room_from room start (message_of form m) (length (message_of form m))

-- What writing a message promises.
pub record Writes (form : Form) (m : Frozen) (old : List ℕ) (start : ℕ) (r : Result ℕ Refusal) (new : List ℕ) : Type 0 where
  pub answer : written r ≡ frozen_in form (length old) start m
  pub output : new ≡ after (frozen_in form (length old) start m) start (message_of form m) old

-- The strict datagram of a packet, of at most 1,280 bytes: 10, 11, 7, 2, 8, 5. It is written into as much room, so 12 is never among
-- them.
unfoldable pub strict_datagram : Stores → Packet → Answer (List ℕ)
strict_datagram s p = onward (writing true (Given full_size) full_size s p) (λ n. given (bytes_written true s p))

-- A packet with its peer, for a stream of this length, from a start: the writer's refusals, then 12 by the stream.
unfoldable pub freezing : Form → ℕ → ℕ → List ℕ → Stores → Packet → Answer ℕ
freezing form room start peer s p =
    onward (strict_datagram s p) (λ d. frozen_in form room start (record { peer = peer; datagram = d }))

-- What freezing promises of its answer and of the stream.
pub record Freezes (form : Form) (peer : List ℕ) (p : Packet) (s : Stores) (old : List ℕ) (start : ℕ) (r : Result ℕ Refusal) (new : List ℕ) : Type 0 where
  pub answer : written r ≡ freezing form (length old) start peer s p
  pub output : new ≡ after (freezing form (length old) start peer s p) start (message_of form (record { peer = peer; datagram = bytes_written true s p })) old
