-- What a function that edits a packet answers and promises.
use Rattle.std.specs.Prelude.{◌≡◌, Result, Ok, Err}
use Rattle.refusal.specs.Answer.{Answer, given, refused, Beside, beside}
use Rattle.refusal.specs.Number.{number_of}
use Rattle.refusal.specs.declared.Refusal.{Refusal}
use Rattle.packet.specs.declared.Packet.{Packet}

-- What a function that edits a packet answers: how it ended, and beside that the new packet, or the one that came.
abbrev pub edited : Packet → Result Packet Refusal → Beside Packet
edited p (Ok q) = record { answer = given tt; value = q }
edited p (Err e) = record { answer = refused (number_of e); value = p }

-- The promise of an edit of a packet: the packet that its answer gives, or the packet as it came beside a refusal.
abbrev pub Edits : Packet → Answer Packet → Result Packet Refusal → Type 0
Edits p a r = edited p r ≡ beside p a
