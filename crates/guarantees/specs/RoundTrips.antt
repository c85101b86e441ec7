-- What strict writing wrote is read back with equal meaning, and what strict reading accepted is written back, byte for byte.
use Rattle.std.specs.Prelude.{ℕ, ◌≤◌, ◌≡◌, true, List, length, take, Result, Ok}
use Rattle.ground.specs.Part.{Bytes}
use Rattle.refusal.specs.declared.Refusal.{Refusal}
use Rattle.packet.specs.Limits.{max_store}
use Rattle.packet.specs.Shape.{Shaped}
use Rattle.packet.specs.Packet.{Stores, stores}
use Rattle.packet.specs.Meaning.{meaning}
use Rattle.packet.specs.declared.Packet.{Packet}
use Rattle.reading.specs.Reading.{FromBytes}
use Rattle.measuring.specs.declared.Limit.{Limit}
use Rattle.writing.specs.Writing.{ToBytes, Held}
use Rattle.guarantees.specs.StrictWriting.{Enough}
use Rattle.guarantees.specs.Wrote.{Wrote}

-- Written, then read: a strict reading of the bytes written, where they are at most 70,000, gives a packet of equal
-- meaning, beside any edit store.
abbrev pub WrittenThenRead : Type 0
WrittenThenRead =
    (limit : Limit) (p : Packet) (s : Stores) (old : List ℕ) (r : Result ℕ Refusal) (new : List ℕ) (n : ℕ) (d : Result Packet Refusal)
    → Shaped p → Held s → ToBytes true limit p s old r new → r ≡ Ok n → n ≤ max_store → FromBytes true (take n new) d
    → (q : Packet) × (d ≡ Ok q) × ((edits : List ℕ) → meaning (stores (take n new) edits) q ≡ meaning s p)

-- Read, then written: a strict writing of an accepted datagram's packet, with enough limit and room, gives the datagram,
-- beside any edit store of at most 70,000 bytes.
abbrev pub ReadThenWritten : Type 0
ReadThenWritten =
    (s edits : List ℕ) (d : Result Packet Refusal) (p : Packet) (limit : Limit) (old : List ℕ) (r : Result ℕ Refusal) (new : List ℕ)
    → Bytes s → FromBytes true s d → d ≡ Ok p → Enough limit (length old) s
    → Bytes edits → length edits ≤ max_store → ToBytes true limit p (stores s edits) old r new
    → Wrote s old r new
