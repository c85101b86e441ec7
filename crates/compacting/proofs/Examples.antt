-- Edges of the rules, computed by the definitions, so that a slip in one of them shows.
use Prim.Native.Nat.{ℕ, ◌-◌}
use mathlib.Core.Path.{◌≡◌, refl}
use mathlib.Core.List.{List, [], ◌∷◌, ◌++◌}
use lib.ListN.{length, replicate}
use Rattle.refusal.specs.Answer.{given, refused, after}
use Rattle.class.specs.declared.MessageClass.TheVariants.{Request}
use Rattle.class.specs.declared.RequestType.TheVariants.{Get}
use Rattle.header.specs.declared.MessageType.TheVariants.{Confirmable}
use Rattle.packet.specs.Packet.{stores, in_datagram, none, bytes_in}
use Rattle.packet.specs.declared.Packet.{Packet}
use Rattle.packet.specs.declared.Range.{Range}
use Rattle.packet.specs.declared.Home.{Home}
use Rattle.packet.specs.declared.Home.TheVariants.{Datagram, Edits}
use Rattle.packet.specs.declared.OptionRecord.{OptionRecord}
use Rattle.judging.specs.Judge.{lengths_of, is_too_long, bad_packet}
use Rattle.compacting.specs.Compacting.{live_bytes, in_edits, relocated, compacting}

option : ℕ → Home → ℕ → ℕ → OptionRecord
option number home start len = record { number = number; home = home; spare = 0; start = start; len = len }

-- A GET of a version, a token, records and a payload.
packet : ℕ → Range → List OptionRecord → Range → Packet
packet version token records payload =
    record {
      header = record { version = version; message_type = Confirmable; code = Request Get; message_id = 1 };
      token = token;
      count = length records;
      options = records ++ replicate (128 - length records) none;
      payload = payload;
    }

-- One range used twice, in an edit store of 50 61 62 00 54 EE 00.
twice : Packet
twice = packet 1 (in_edits 4 1) (option 11 Edits 1 2 ∷ option 11 Edits 1 2 ∷ []) (in_edits 0 1)

dead : List ℕ
dead = 80 ∷ 97 ∷ 98 ∷ 0 ∷ 84 ∷ 238 ∷ 0 ∷ []

-- It is copied twice: end 6, ranges end to end, and after the end both buffers are as they were.
copied_twice : (compacting (lengths_of (stores [] dead)) 8 twice ≡ given 6) × (relocated twice ≡ packet 1 (in_edits 0 1) (option 11 Edits 1 2 ∷ option 11 Edits 3 2 ∷ []) (in_edits 5 1)) × (after (compacting (lengths_of (stores [] dead)) 8 twice) 0 (live_bytes (stores [] dead) twice) dead ≡ 84 ∷ 97 ∷ 98 ∷ 97 ∷ 98 ∷ 80 ∷ 0 ∷ []) × (after (compacting (lengths_of (stores [] dead)) 8 twice) 0 (live_bytes (stores [] dead) twice) (replicate 8 255) ≡ 84 ∷ 97 ∷ 98 ∷ 97 ∷ 98 ∷ 80 ∷ 255 ∷ 255 ∷ [])
unfolding compacting is_too_long bad_packet bytes_in option packet twice dead
copied_twice = (refl, refl, refl, refl)

-- Token and payload that change places: copied in place they would both be the token.
crossed : live_bytes (stores [] (97 ∷ 98 ∷ [])) (packet 1 (in_edits 1 1) [] (in_edits 0 1)) ≡ 98 ∷ 97 ∷ []
unfolding bytes_in packet
crossed = refl

-- The sum can pass the store, and then is 12; so is one that passes the second buffer. Equal passes, and a sum of 0 needs no room.
sums : (compacting (record { datagram = 0; edits = 1 }) 2 (packet 1 (in_edits 0 1) [] (in_edits 0 1)) ≡ refused 12) × (compacting (record { datagram = 0; edits = 2 }) 1 (packet 1 (in_edits 0 1) [] (in_edits 0 1)) ≡ refused 12) × (compacting (record { datagram = 0; edits = 2 }) 2 (packet 1 (in_edits 0 1) [] (in_edits 0 1)) ≡ given 2) × (compacting (record { datagram = 4; edits = 0 }) 0 (packet 1 (in_datagram 4 0) [] (in_datagram 4 0)) ≡ given 0)
unfolding compacting is_too_long bad_packet packet
sums = (refl, refl, refl, refl)

-- 11 comes before 12, and 10 before both, for either store.
order : (compacting (record { datagram = 0; edits = 1 }) 0 (packet 1 (in_edits 0 0) [] (in_edits 2 0)) ≡ refused 11) × (compacting (record { datagram = 0; edits = 70001 }) 0 (packet 4 (in_edits 0 0) [] (in_edits 2 0)) ≡ refused 10) × (compacting (record { datagram = 70001; edits = 1 }) 0 (packet 4 (in_edits 0 0) [] (in_edits 2 0)) ≡ refused 10)
unfolding compacting is_too_long bad_packet packet
order = (refl, refl, refl)

-- A packet as read has its live bytes in the datagram: beside an empty edit store it is 12.
as_read : compacting (record { datagram = 5; edits = 0 }) 5 (packet 1 (in_datagram 4 1) [] (in_datagram 5 0)) ≡ refused 12
unfolding compacting is_too_long bad_packet packet
as_read = refl

-- Values of both stores, gathered in the edit store: 41 01 00 01 54 B1 61 FF 62 with Observe 300 in an edit store.
both : Packet
both = packet 1 (in_datagram 4 1) (option 6 Edits 1 2 ∷ option 11 Datagram 6 1 ∷ []) (in_datagram 8 1)

datagram : List ℕ
datagram = 65 ∷ 1 ∷ 0 ∷ 1 ∷ 84 ∷ 177 ∷ 97 ∷ 255 ∷ 98 ∷ []

edits : List ℕ
edits = 170 ∷ 1 ∷ 44 ∷ 170 ∷ 170 ∷ 170 ∷ 170 ∷ []

gathered : (compacting (record { datagram = 9; edits = 4 }) 5 both ≡ refused 12) × (compacting (lengths_of (stores datagram edits)) 5 both ≡ given 5) × (relocated both ≡ packet 1 (in_edits 0 1) (option 6 Edits 1 2 ∷ option 11 Edits 3 1 ∷ []) (in_edits 4 1)) × (after (compacting (lengths_of (stores datagram edits)) 5 both) 0 (live_bytes (stores datagram edits) both) edits ≡ 84 ∷ 1 ∷ 44 ∷ 97 ∷ 98 ∷ 170 ∷ 170 ∷ [])
unfolding compacting is_too_long bad_packet bytes_in option packet both datagram edits
gathered = (refl, refl, refl, refl)
