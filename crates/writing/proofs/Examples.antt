-- Edges of the rules, computed by the definitions, so that a slip in one of them shows.
use Prim.Native.Nat.{ℕ, ◌-◌}
use mathlib.Core.Path.{◌≡◌, refl}
use mathlib.Core.Bool.{true, false}
use mathlib.Core.List.{List, [], ◌∷◌, ◌++◌}
use lib.ListN.{length, replicate}
use Rattle.rfc.specs.Message.{layout, header_layout, option_layout, nibble_of, extension_of}
use Rattle.refusal.specs.Answer.{given, refused}
use Rattle.class.specs.declared.MessageClass.{MessageClass}
use Rattle.class.specs.declared.MessageClass.TheVariants.{Empty, Request, Reserved}
use Rattle.header.specs.declared.MessageType.TheVariants.{Confirmable}
use Rattle.class.specs.declared.RequestType.TheVariants.{Get}
use Rattle.packet.specs.Limits.{full_size}
use Rattle.packet.specs.Packet.{Stores, stores, in_datagram, none, bytes_in}
use Rattle.judging.specs.Judge.{is_too_long, bad_packet, option_size, extension_size}
use Rattle.packet.specs.declared.Packet.{Packet}
use Rattle.packet.specs.declared.Range.{Range}
use Rattle.packet.specs.declared.Home.TheVariants.{Datagram, Edits}
use Rattle.packet.specs.declared.OptionRecord.{OptionRecord}
use Rattle.measuring.specs.Measuring.{strictly, limited, marker_size, measured}
use Rattle.measuring.specs.declared.Limit.TheVariants.{Default, Given, Unlimited}
use Rattle.writing.specs.Writing.{bytes_written, writing}

range : ℕ → ℕ → Range
range start len = in_datagram start len

edited : ℕ → ℕ → Range
edited start len = record { home = Edits; start = start; len = len }

option : ℕ → ℕ → OptionRecord
option number len = record { number = number; home = Datagram; spare = 0; start = 0; len = len }

-- A packet of a version, a class, a token, records and a payload.
packet : ℕ → MessageClass → Range → List OptionRecord → Range → Packet
packet version class token records payload =
    record {
      header = record { version = version; message_type = Confirmable; code = class; message_id = 1 };
      token = token;
      count = length records;
      options = records ++ replicate (128 - length records) none;
      payload = payload;
    }

-- A packet with nothing but a payload.
carrying : MessageClass → ℕ → Packet
carrying class len = packet 1 class (range 0 0) [] (range 0 len)

-- So many zeros in the datagram, and no edits.
zeros : ℕ → Stores
zeros n = stores (replicate n 0) []

-- By default 1,152 counted bytes pass and 1,153 are 5, in both modes.
defaults : (writing false Default 1152 (zeros 1148) (carrying (Request Get) 1147) ≡ given 1152) × (writing true Default 1152 (zeros 1148) (carrying (Request Get) 1147) ≡ given 1152) × (writing false Default 1153 (zeros 1148) (carrying (Request Get) 1148) ≡ refused 5) × (writing true Default 1153 (zeros 1148) (carrying (Request Get) 1148) ≡ refused 5)
unfolding writing strictly limited marker_size is_too_long bad_packet bytes_in layout header_layout range packet carrying zeros
defaults = (refl, refl, refl, refl)

-- A limit that is given stands by itself, above the default too: 1,200 bytes under 1,280, and a full-size message.
givens : (writing true (Given 1280) 1200 (zeros 1280) (carrying (Request Get) 1195) ≡ given 1200) × (writing true (Given full_size) 1280 (zeros 1280) (carrying (Request Get) 1275) ≡ given 1280) × (writing true (Given full_size) 1281 (zeros 1280) (carrying (Request Get) 1276) ≡ refused 5) × (writing false (Given 3) 4 (zeros 0) (carrying Empty 0) ≡ refused 5)
unfolding writing strictly limited marker_size is_too_long bad_packet bytes_in layout header_layout range packet carrying zeros
givens = (refl, refl, refl, refl)

-- Plain drops the payload of class `Empty` and counts it, without a marker; class `Reserved(0)` keeps it with its marker.
dropped : (writing false Default 4 (zeros 1149) (carrying Empty 1148) ≡ given 4) × (writing false Default 4 (zeros 1149) (carrying Empty 1149) ≡ refused 5) × (writing false Unlimited 4 (zeros 1149) (carrying Empty 1149) ≡ given 4) × (writing false Default 1152 (zeros 1149) (carrying (Reserved 0) 1147) ≡ given 1152) × (writing false Default 1152 (zeros 1149) (carrying (Reserved 0) 1148) ≡ refused 5)
unfolding writing strictly limited marker_size is_too_long bad_packet bytes_in layout header_layout range packet carrying zeros
dropped = (refl, refl, refl, refl, refl)

-- An empty message that carries comes before the limit, and the limit before the room.
orders : (writing true Default 0 (zeros 2000) (carrying Empty 2000) ≡ refused 8) × (writing true Default 0 (zeros 1148) (carrying (Request Get) 1148) ≡ refused 5) × (writing true (Given 1153) 1152 (zeros 1148) (carrying (Request Get) 1148) ≡ refused 12) × (writing false Default 1151 (zeros 1148) (carrying (Request Get) 1147) ≡ refused 12)
unfolding writing strictly limited marker_size is_too_long bad_packet bytes_in layout header_layout range packet carrying zeros
orders = (refl, refl, refl, refl)

-- A header is four bytes: a smaller limit is 5, with no output too, and a smaller output 12.
headers : (writing true (Given 0) 4 (zeros 0) (carrying Empty 0) ≡ refused 5) × (writing false (Given 3) 0 (zeros 0) (carrying Empty 0) ≡ refused 5) × (writing true (Given 4) 0 (zeros 0) (carrying Empty 0) ≡ refused 12) × (writing false (Given 4) 3 (zeros 0) (carrying Empty 0) ≡ refused 12) × (writing true (Given 4) 4 (zeros 0) (carrying Empty 0) ≡ given 4)
unfolding writing strictly limited marker_size is_too_long bad_packet bytes_in layout header_layout range packet carrying zeros
headers = (refl, refl, refl, refl, refl)

-- Strict judges by the code byte, and counts records: an option of no bytes carries, a payload of no bytes does not.
empties : (writing true Default 9 (zeros 9) (carrying (Reserved 0) 1) ≡ refused 8) × (writing true Default 9 (zeros 9) (carrying Empty 1) ≡ refused 8) × (writing true Default 9 (zeros 9) (carrying Empty 0) ≡ given 4) × (writing true Default 9 (zeros 9) (packet 1 Empty (range 0 0) (option 0 0 ∷ []) (range 0 0)) ≡ refused 8)
unfolding writing strictly limited marker_size is_too_long bad_packet option_size extension_size bytes_in layout header_layout option_layout nibble_of extension_of range option packet carrying zeros
empties = (refl, refl, refl, refl)

-- Bad records come before the version, a range of no bytes can be outside, and equal numbers stand in order.
records : (writing true Default 9 (zeros 8) (packet 4 (Request Get) (range 0 0) [] (range 0 0)) ≡ refused 11) × (writing true Default 9 (zeros 8) (packet 0 (Request Get) (range 0 0) [] (range 0 0)) ≡ refused 7) × (writing false Default 9 (zeros 8) (packet 0 (Request Get) (range 9 0) [] (range 0 0)) ≡ refused 11) × (writing false Default 9 (zeros 8) (packet 1 (Request Get) (range 0 0) (option 12 0 ∷ option 11 0 ∷ []) (range 0 0)) ≡ refused 11) × (writing true Default 9 (zeros 8) (packet 1 (Request Get) (range 0 0) (option 11 0 ∷ option 11 1 ∷ []) (range 0 0)) ≡ given 7)
unfolding writing strictly limited marker_size is_too_long bad_packet option_size extension_size bytes_in layout header_layout option_layout nibble_of extension_of range option packet zeros
records = (refl, refl, refl, refl, refl)

-- A token of 9 to 15 bytes is plain's alone, and one of 16 is nobody's.
tokens : (writing true Default 99 (zeros 16) (packet 1 (Request Get) (range 0 9) [] (range 0 0)) ≡ refused 2) × (writing false Default 99 (zeros 16) (packet 1 (Request Get) (range 0 15) [] (range 0 0)) ≡ given 19) × (writing false Default 99 (zeros 16) (packet 1 (Request Get) (range 0 16) [] (range 0 0)) ≡ refused 11)
unfolding writing strictly limited marker_size is_too_long bad_packet bytes_in layout header_layout range packet zeros
tokens = (refl, refl, refl)

-- A range is held to its own store, an empty one too, whatever the other store holds.
homes : (writing false Default 9 (stores (replicate 100 0) (replicate 4 0)) (packet 1 (Request Get) (edited 5 0) [] (range 0 0)) ≡ refused 11) × (writing false Default 9 (stores [] (0 ∷ [])) (packet 1 (Request Get) (range 0 1) [] (range 0 0)) ≡ refused 11) × (writing false Default 9 (stores [] (0 ∷ [])) (packet 1 (Request Get) (edited 0 1) [] (range 0 0)) ≡ given 5)
unfolding writing strictly limited marker_size is_too_long bad_packet bytes_in layout header_layout range edited packet
homes = (refl, refl, refl)

-- Each store may have 70,000 bytes; one byte more, in either of them, comes before a bad record.
longest : (measured false Default 9 (record { datagram = 70000; edits = 70000 }) (carrying Empty 0) ≡ given 4) × (measured false Default 9 (record { datagram = 70001; edits = 4 }) (packet 1 (Request Get) (edited 5 0) [] (range 0 0)) ≡ refused 10) × (measured false Default 9 (record { datagram = 4; edits = 70001 }) (packet 1 (Request Get) (range 5 0) [] (range 0 0)) ≡ refused 10)
unfolding measured strictly limited marker_size is_too_long bad_packet range edited packet carrying
longest = (refl, refl, refl)

-- Observe 300 in the edit store, beside the token, the path and the payload of the datagram that was read.
observed : bytes_written true (stores (65 ∷ 1 ∷ 0 ∷ 1 ∷ 84 ∷ 177 ∷ 97 ∷ 255 ∷ 98 ∷ []) (170 ∷ 1 ∷ 44 ∷ 170 ∷ [])) (packet 1 (Request Get) (range 4 1) (record { number = 6; home = Edits; spare = 0; start = 1; len = 2 } ∷ record { number = 11; home = Datagram; spare = 0; start = 6; len = 1 } ∷ []) (range 8 1)) ≡ 65 ∷ 1 ∷ 0 ∷ 1 ∷ 84 ∷ 98 ∷ 1 ∷ 44 ∷ 81 ∷ 97 ∷ 255 ∷ 98 ∷ []
unfolding bytes_in layout header_layout option_layout nibble_of extension_of range packet
observed = refl
