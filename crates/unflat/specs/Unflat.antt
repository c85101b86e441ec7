-- The packet of a flat form: what makes numbers one, and what packet they are.
use Rattle.std.specs.Prelude.{ℕ, zero, suc, ◌+◌, ◌-◌, ◌*◌, Bool, false, List, [], ◌∷◌, ◌++◌, length, get_or, replicate, ltb, eqb, Result, Ok, Err}
use Rattle.ground.specs.Choice.{pick, either}
use Rattle.refusal.specs.Answer.{Answer, given, refused, Beside}
use Rattle.refusal.specs.Number.{number_of}
use Rattle.refusal.specs.declared.Refusal.{Refusal}
use Rattle.class.specs.Class.{class_of}
use Rattle.header.specs.Header.{type_of}
use Rattle.header.specs.declared.Header.{Header}
use Rattle.packet.specs.Limits.{max_options}
use Rattle.packet.specs.Packet.{none, new_packet}
use Rattle.packet.specs.declared.Packet.{Packet}
use Rattle.packet.specs.declared.OptionRecord.{OptionRecord}
use Rattle.packet.specs.declared.Range.{Range}
use Rattle.packet.specs.declared.Home.{Home}
use Rattle.packet.specs.declared.Home.TheVariants.{Datagram, Edits}

-- Version over 255, type over 3, code byte over 255, id over 65535, a home of token or payload other than 0 and 1, or over
-- 128 records.
unfoldable pub bad_head : List ℕ → Bool
bad_head l =
    either (ltb 255 (get_or l 0 0))
    (either (ltb 3 (get_or l 1 0))
    (either (ltb 255 (get_or l 2 0))
    (either (ltb 65535 (get_or l 3 0))
    (either (ltb 1 (get_or l 4 0)) (either (ltb 1 (get_or l 7 0)) (ltb max_options (get_or l 10 0)))))))

-- The record whose number stands at a place has a number over 65535, or a home other than 0 and 1.
unfoldable pub bad_record : List ℕ → ℕ → Bool
bad_record l at = either (ltb 65535 (get_or l at 0)) (ltb 1 (get_or l (at + 1) 0))

-- One of the first records is bad.
abbrev pub bad_numbers : List ℕ → ℕ → Bool
bad_numbers l zero = false
bad_numbers l (suc n) = either (bad_numbers l n) (bad_record l (11 + 4 * n))

-- Fewer numbers than the 11 of the head, or than 11 + 4·count, or a bad head.
unfoldable pub bad_frame : List ℕ → Bool
bad_frame l = either (ltb (length l) 11) (either (bad_head l) (ltb (length l) (11 + 4 * get_or l 10 0)))

-- Numbers that are no packet's flat form: too few, or one that its field does not hold.
unfoldable pub bad_flat : List ℕ → Bool
bad_flat l = either (bad_frame l) (bad_numbers l (get_or l 10 0))

-- The header of a flat form.
unfoldable pub header_in : List ℕ → Header
header_in l =
    record {
      version = get_or l 0 0;
      message_type = type_of (get_or l 1 0);
      code = class_of (get_or l 2 0);
      message_id = get_or l 3 0;
    }

-- The home that a number stands for: 0 for the datagram, 1 for the edit store.
unfoldable pub home_of : ℕ → Home
home_of n = pick (eqb n 0) Datagram Edits

-- The range whose home stands at a place.
abbrev pub range_at : List ℕ → ℕ → Range
range_at l at = record { home = home_of (get_or l at 0); start = get_or l (at + 1) 0; len = get_or l (at + 2) 0 }

-- The record whose number stands at a place.
abbrev pub record_at : List ℕ → ℕ → OptionRecord
record_at l at =
    record { number = get_or l at 0; home = home_of (get_or l (at + 1) 0); spare = 0; start = get_or l (at + 2) 0; len = get_or l (at + 3) 0 }

-- The first records, in their order.
abbrev pub records_in : List ℕ → ℕ → List OptionRecord
records_in l zero = []
records_in l (suc n) = records_in l n ++ (record_at l (11 + 4 * n) ∷ [])

-- The packet of a flat form: the empty record stands past the count.
unfoldable pub packet_in : List ℕ → Packet
packet_in l =
    record {
      header = header_in l;
      token = range_at l 4;
      count = get_or l 10 0;
      options = records_in l (get_or l 10 0) ++ replicate (max_options - get_or l 10 0) none;
      payload = range_at l 7;
    }

-- The packet of numbers; those that are no flat form give BadRecord (11).
unfoldable pub unflat : List ℕ → Answer Packet
unflat l = pick (bad_flat l) (refused 11) (given (packet_in l))

-- The answer of taking a packet out of numbers: how it ended, and the packet beside it, which is the new packet beside a refusal.
abbrev pub taken : Result Packet Refusal → Beside Packet
taken (Ok p) = record { answer = given tt; value = p }
taken (Err e) = record { answer = refused (number_of e); value = new_packet }
