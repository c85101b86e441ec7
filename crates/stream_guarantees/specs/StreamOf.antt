-- Which list of peers and datagrams a freeze stream is that of.
use Rattle.std.specs.Prelude.{ℕ, ◌≡◌, true, List, [], ◌∷◌}
use Rattle.refusal.specs.Answer.{given}
use Rattle.packet.specs.declared.Packet.{Packet}
use Rattle.reading.specs.Reading.{reading}
use Rattle.stream.specs.declared.Form.{Form}
use Rattle.stream.specs.Stream.{Frozen, AllSized, stream_of}

-- Strict reading accepts each datagram.
abbrev pub AllAccepted : List Frozen → Type 0
AllAccepted [] = Unit {0}
AllAccepted (m ∷ l) = ((p : Packet) × (reading true m.datagram ≡ given p)) × AllAccepted l

-- The stream is that of a list whose peers have 18 bytes, and whose datagrams have 4..1,280 and are accepted by strict reading.
pub record IsStreamOf (form : Form) (s : List ℕ) (l : List Frozen) : Type 0 where
  pub sized : AllSized l
  pub accepted : AllAccepted l
  pub bytes : s ≡ stream_of form l
