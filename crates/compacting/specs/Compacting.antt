-- Compaction (docs/RULES.md, Compaction): the live bytes of a packet moved to the front of the edit store, and its ranges
-- rewritten.
use Rattle.std.specs.Prelude.{ℕ, ◌+◌, ◌-◌, ◌≡◌, List, [], ◌∷◌, ◌++◌, length, replicate, ltb, Result, Ok, Err}
use Rattle.ground.specs.Choice.{pick, either}
use Rattle.refusal.specs.Answer.{Answer, given, refused, after}
use Rattle.refusal.specs.Number.{number_of}
use Rattle.refusal.specs.declared.Refusal.{Refusal}
use Rattle.packet.specs.Limits.{max_options}
use Rattle.packet.specs.Packet.{Stores, none, bytes_of, value_of, records_of}
use Rattle.packet.specs.declared.Packet.{Packet}
use Rattle.packet.specs.declared.OptionRecord.{OptionRecord}
use Rattle.packet.specs.declared.Range.{Range}
use Rattle.packet.specs.declared.Home.TheVariants.{Edits}
use Rattle.judging.specs.Judge.{lengths_of, is_too_long, bad_packet}
use Rattle.judging.specs.declared.Lengths.{Lengths}
use Rattle.compacting.specs.declared.Compacted.{Compacted}

-- The values of records, one after the other; a range used twice is copied twice.
abbrev pub values_of : Stores → List OptionRecord → List ℕ
values_of s [] = []
values_of s (r ∷ rs) = value_of s r ++ values_of s rs

-- The live bytes of a packet, as token, options, payload.
abbrev pub live_bytes : Stores → Packet → List ℕ
live_bytes s p = bytes_of s p.token ++ (values_of s (records_of p) ++ bytes_of s p.payload)

-- The sum of the lengths of values.
abbrev pub values_length : List OptionRecord → ℕ
values_length [] = 0
values_length (r ∷ rs) = r.len + values_length rs

-- The new end is the sum of the lengths.
abbrev pub live_length : Packet → ℕ
live_length p = p.token.len + (values_length (records_of p) + p.payload.len)

-- A range of the edit store.
abbrev pub in_edits : ℕ → ℕ → Range
in_edits start len = record { home = Edits; start = start; len = len }

-- A record of the same number and length, with its value at a place in the edit store.
abbrev pub moved_to : ℕ → OptionRecord → OptionRecord
moved_to at r = record { number = r.number; home = Edits; spare = 0; start = at; len = r.len }

-- Records whose values stand end to end from a place on.
abbrev pub relaid : ℕ → List OptionRecord → List OptionRecord
relaid at [] = []
relaid at (r ∷ rs) = moved_to at r ∷ relaid (at + r.len) rs

-- The packet with its ranges rewritten: the token from 0 on, then the values, then the payload, every one of them in the edit
-- store. Header, numbers and count stay; past the records in use stands the empty record.
abbrev pub relocated : Packet → Packet
relocated p =
    record {
      header = p.header;
      token = in_edits 0 p.token.len;
      count = p.count;
      options = relaid p.token.len (records_of p) ++ replicate (max_options - length (records_of p)) none;
      payload = in_edits (p.token.len + values_length (records_of p)) p.payload.len;
    }

-- Refusals: 10, 11 (any in Writing), then 12 when the sum exceeds the edit store or the second buffer.
unfoldable pub compacting : Lengths → ℕ → Packet → Answer ℕ
compacting lengths room p =
    pick (is_too_long lengths) (refused 10)
    (pick (bad_packet lengths p) (refused 11)
    (pick (either (ltb lengths.edits (live_length p)) (ltb room (live_length p))) (refused 12) (given (live_length p))))

-- The packet beside an answer: rewritten, or as it came beside a refusal.
abbrev pub packet_beside : Answer ℕ → Packet → Packet
packet_beside (given n) p = relocated p
packet_beside (refused k) p = p

-- The answer of compaction: the new end.
abbrev pub end_given : Result Compacted Refusal → Answer ℕ
end_given (Ok c) = given c.end
end_given (Err e) = refused (number_of e)

-- The packet that it leaves: the one that it gives, or the one that came beside a refusal.
abbrev pub packet_left : Packet → Result Compacted Refusal → Packet
packet_left p (Ok c) = c.packet
packet_left p (Err e) = p

-- The promise of compaction: of its answer and the packet that it leaves, and of the edit store and the second buffer, which then
-- begin with the live bytes and are otherwise as they were, and after a refusal what they were.
pub record Compacts (p : Packet) (s : Stores) (second : List ℕ) (r : Result Compacted Refusal) (newEdits newSecond : List ℕ) : Type 0 where
  pub answer : end_given r ≡ compacting (lengths_of s) (length second) p
  pub packet : packet_left p r ≡ packet_beside (compacting (lengths_of s) (length second) p) p
  pub edits : newEdits ≡ after (compacting (lengths_of s) (length second) p) 0 (live_bytes s p) s.edits
  pub buffer : newSecond ≡ after (compacting (lengths_of s) (length second) p) 0 (live_bytes s p) second
