-- The flat form of a packet, a list of numbers, and the answer of putting it into an output.
use Rattle.std.specs.Prelude.{ℕ, List, [], ◌∷◌, ◌++◌, length}
use Rattle.refusal.specs.Answer.{Answer, room_from}
use Rattle.class.specs.Class.{byte_of}
use Rattle.header.specs.Header.{number_of_type}
use Rattle.header.specs.declared.Header.{Header}
use Rattle.packet.specs.Packet.{chosen, records_of}
use Rattle.packet.specs.declared.Packet.{Packet}
use Rattle.packet.specs.declared.OptionRecord.{OptionRecord}
use Rattle.packet.specs.declared.Range.{Range}
use Rattle.packet.specs.declared.Home.{Home}

-- The number that stands for a home: 0 for the datagram, 1 for the edit store.
abbrev pub number_of_home : Home → ℕ
number_of_home h = chosen h 0 1

-- Version, type, code byte, id, home, start and length of the token, home, start and length of the payload, count of records.
abbrev pub flat_head : Header → Range → Range → ℕ → List ℕ
flat_head h token payload count =
    h.version ∷ number_of_type h.message_type ∷ byte_of h.code ∷ h.message_id ∷
    number_of_home token.home ∷ token.start ∷ token.len ∷
    number_of_home payload.home ∷ payload.start ∷ payload.len ∷ count ∷ []

-- Number, home, start and length of each record.
abbrev pub flat_records : List OptionRecord → List ℕ
flat_records [] = []
flat_records (r ∷ rs) = r.number ∷ number_of_home r.home ∷ r.start ∷ r.len ∷ flat_records rs

-- The flat form of a packet: 11 + 4·count numbers.
unfoldable pub flat : Packet → List ℕ
flat p = flat_head p.header p.token p.payload (length (records_of p)) ++ flat_records (records_of p)

-- The answer of putting it into an output with this much room: too little gives NoRoom (12).
abbrev pub putting : ℕ → Packet → Answer (Unit {0})
putting room p = room_from room 0 (flat p) tt
