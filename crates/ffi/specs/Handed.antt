-- What reading hands over as numbers, and its answer as one number.
use Rattle.std.specs.Prelude.{ℕ}
use Rattle.refusal.specs.Answer.{Answer, given, refused, onward}
use Rattle.packet.specs.declared.Packet.{Packet}
use Rattle.flat.specs.Flat.{putting}

-- The answer of handing over the flat form of the packet that was read, to an output with this much room.
abbrev pub handed : ℕ → Answer Packet → Answer (Unit {0})
handed room a = onward a (putting room)

-- An answer as one number: 0, or the refusal's.
abbrev pub number_in : Answer (Unit {0}) → ℕ
number_in (given _) = 0
number_in (refused k) = k
