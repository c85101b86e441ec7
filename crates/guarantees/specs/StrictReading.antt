-- Strict reading: a datagram of at most 70,000 bytes is accepted exactly when some well-formed message has those bytes as its
-- RFC 7252 layout; there is only one such message, and the answer is that one, whatever the edit store beside it holds.
use Rattle.std.specs.Prelude.{ℕ, ◌≤◌, ◌≡◌, ◌↔◌, true, List, length, Result, Ok}
use Rattle.rfc.specs.Message.{Message, WellFormed, layout}
use Rattle.ground.specs.Part.{Bytes}
use Rattle.refusal.specs.declared.Refusal.{Refusal}
use Rattle.packet.specs.Limits.{max_store}
use Rattle.packet.specs.Packet.{stores}
use Rattle.packet.specs.Meaning.{meaning}
use Rattle.packet.specs.declared.Packet.{Packet}
use Rattle.reading.specs.Reading.{FromBytes}

-- A well-formed message whose layout is the datagram.
pub record IsLayoutOf (s : List ℕ) (m : Message) : Type 0 where
  pub well_formed : WellFormed m
  pub bytes : layout m ≡ s

pub record StrictReading (s : List ℕ) (d : Result Packet Refusal) : Type 0 where
  -- Accepted exactly when there is such a message.
  pub accepts : ((p : Packet) × (d ≡ Ok p)) ↔ ((m : Message) × IsLayoutOf s m)
  -- There is only one.
  pub one : (m n : Message) → IsLayoutOf s m → IsLayoutOf s n → m ≡ n
  -- The answer is that one, beside any edit store.
  pub answer : (m : Message) → IsLayoutOf s m → (p : Packet) × (d ≡ Ok p) × ((edits : List ℕ) → meaning (stores s edits) p ≡ m)

-- So it is of every datagram, and of every answer that meets the promise.
abbrev pub ReadsStrictly : Type 0
ReadsStrictly = (s : List ℕ) → Bytes s → length s ≤ max_store → (d : Result Packet Refusal) → FromBytes true s d → StrictReading s d
