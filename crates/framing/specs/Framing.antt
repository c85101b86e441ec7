-- From a datagram to the frame of its message, and back: the order of refusals, and the bytes that are written.
use Rattle.std.specs.Prelude.{ℕ, ◌+◌, ◌-◌, ◌*◌, ◌%◌, ◌≤◌, ◌≡◌, true, List, [], ◌++◌, length, drop, get_or, Result}
use Rattle.rfc.specs.Frame.{frame_head, frame}
use Rattle.refusal.specs.Answer.{Answer, given, refused, onward, written, fitted, after}
use Rattle.refusal.specs.declared.Refusal.{Refusal}
use Rattle.header.specs.Header.{number_of_type, raw_bytes}
use Rattle.header.specs.declared.HeaderRaw.{HeaderRaw}
use Rattle.header.specs.declared.MessageType.{MessageType}
use Rattle.packet.specs.Limits.{max_store}
use Rattle.packet.specs.Packet.{stores}
use Rattle.packet.specs.Meaning.{meaning}
use Rattle.reading.specs.Reading.{reading}
use Rattle.framing.specs.Head.{head_in}
use Rattle.framing.specs.declared.Head.{Head}

-- The frame of a datagram: that of the message which strict reading gives, or the reader's refusal.
unfoldable pub framed : List ℕ → Answer (List ℕ)
framed s = onward (reading true s) (λ p. given (frame (meaning (stores s []) p)))

-- A datagram that strict reading accepts, or the reader's refusal.
unfoldable pub strictly : List ℕ → Answer (List ℕ)
strictly s = onward (reading true s) (λ p. given s)

-- The header of a message that comes of a frame: version 1, the type and the id that are named.
abbrev pub header_for : MessageType → ℕ → Head → HeaderRaw
header_for kind id h =
    record { ver_type_tkl = 64 + number_of_type kind * 16 + h.token_length; code = h.code; message_id = id }

-- The datagram of a frame whose head was read: the header, and all that follows the head.
abbrev pub datagram_of : MessageType → ℕ → List ℕ → Head → List ℕ
datagram_of kind id f h = raw_bytes (header_for kind id h) ++ drop h.token_at f

-- The datagram of a frame: 20, then what strict reading refuses of the datagram, of which 10 comes first.
unfoldable pub unframed : MessageType → ℕ → List ℕ → Answer (List ℕ)
unframed kind id f = onward (head_in f) (λ h. strictly (datagram_of kind id f h))

-- A datagram of at most 70,000 bytes that has its header and its token.
pub record Whole (s : List ℕ) : Type 0 where
  pub token : 4 + get_or s 0 0 % 16 ≤ length s
  pub short : length s ≤ max_store

-- The frame of a datagram by its bytes alone: a head, by what the header says and what the length leaves, and all that follows
-- the header.
unfoldable pub frame_of : List ℕ → List ℕ
frame_of s = frame_head (length s - 4 - get_or s 0 0 % 16) (get_or s 0 0 % 16) (get_or s 1 0) ++ drop 4 s

-- The bytes of an answer, and none of a refusal.
abbrev pub bytes_of : Answer (List ℕ) → List ℕ
bytes_of (given bytes) = bytes
bytes_of (refused k) = []

-- What a conversion promises: a refusal, then NoRoom (12); else its bytes at the front of the output and their length as the answer.
pub record Converts (a : Answer (List ℕ)) (old : List ℕ) (r : Result ℕ Refusal) (new : List ℕ) : Type 0 where
  pub answer : written r ≡ onward a (fitted (length old))
  pub output : new ≡ after (onward a (fitted (length old))) 0 (bytes_of a) old

-- Out, to a frame.
abbrev pub ToFrame : List ℕ → List ℕ → Result ℕ Refusal → List ℕ → Type 0
ToFrame s old r new = Converts (framed s) old r new

-- Back from a frame, with a type and an id.
abbrev pub FromFrame : MessageType → ℕ → List ℕ → List ℕ → Result ℕ Refusal → List ℕ → Type 0
FromFrame kind id f old r new = Converts (unframed kind id f) old r new
