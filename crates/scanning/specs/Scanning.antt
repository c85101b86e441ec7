-- Reading a datagram with no packet made: what judging it says, and its flat form.
use Rattle.std.specs.Prelude.{ℕ, ◌+◌, Bool, List, [], ◌∷◌, Result, Ok, Err}
use Rattle.refusal.specs.Answer.{Answer, given, refused, onward, beside}
use Rattle.refusal.specs.Number.{number_of}
use Rattle.refusal.specs.declared.Refusal.{Refusal}
use Rattle.packet.specs.Packet.{new_packet, records_of}
use Rattle.packet.specs.declared.Packet.{Packet}
use Rattle.packet.specs.declared.OptionRecord.{OptionRecord}
use Rattle.option_reading.specs.Option.{end}
use Rattle.reading.specs.Reading.{reading}
use Rattle.flat.specs.Flat.{flat, putting}
use Rattle.scanning.specs.declared.Extent.{Extent}

-- How many options a message has, where they end, and where its payload starts.
pub record Span : Type 0 where
  pub count : ℕ
  pub end : ℕ
  pub payload : ℕ

-- Where options end that start at a position: with the last of them.
abbrev pub last_end : ℕ → List OptionRecord → ℕ
last_end start [] = start
last_end start (r ∷ rs) = last_end (end r) rs

-- The span of the packet of a datagram: its options start after its token.
abbrev pub span_of : Packet → Span
span_of p =
    record {
      count = p.count;
      end = last_end (p.token.start + p.token.len) (records_of p);
      payload = p.payload.start;
    }

-- What judging a datagram says: what refuses its reading, or the span of the packet that is read.
abbrev pub judged : Bool → List ℕ → Answer Span
judged strict s = onward (reading strict s) (λ p. given (span_of p))

-- An extent as an answer.
abbrev pub extent_of : Result Extent Refusal → Answer Span
extent_of (Ok x) = given (record { count = x.count; end = x.end; payload = x.payload })
extent_of (Err e) = refused (number_of e)

-- The answer of putting the flat form of the packet that is read into an output with this much room.
abbrev pub scanned : Bool → ℕ → List ℕ → Answer (Unit {0})
scanned strict room s = onward (reading strict s) (putting room)

-- The flat form of the packet that is read; that of the new packet where reading is refused.
abbrev pub flat_read : Bool → List ℕ → List ℕ
flat_read strict s = flat (beside new_packet (reading strict s)).value
