-- Writing a packet, plain and strict: its bytes, the order of refusals, and the promise of every writer.
use Rattle.std.specs.Prelude.{ℕ, ◌≡◌, Bool, List, length, Result}
use Rattle.ground.specs.Choice.{pick}
use Rattle.ground.specs.Part.{Bytes}
use Rattle.rfc.specs.Message.{layout}
use Rattle.refusal.specs.Answer.{Answer, refused, onward, written, fitted, after}
use Rattle.refusal.specs.declared.Refusal.{Refusal}
use Rattle.packet.specs.Packet.{Stores}
use Rattle.packet.specs.Meaning.{meaning}
use Rattle.packet.specs.declared.Packet.{Packet}
use Rattle.judging.specs.Judge.{lengths_of, is_too_long, bad_packet}
use Rattle.measuring.specs.Measuring.{sent_payload, counted, strictly, limited}
use Rattle.measuring.specs.declared.Limit.{Limit}

-- The packet that is sent: all but for a payload that is dropped.
abbrev pub sent : Bool → Packet → Packet
sent strict p =
    record {
      header = p.header;
      token = p.token;
      count = p.count;
      options = p.options;
      payload = sent_payload strict p.header.code p.payload;
    }

-- The bytes of a packet: the layout of what it means.
abbrev pub bytes_written : Bool → Stores → Packet → List ℕ
bytes_written strict s p = layout (meaning s (sent strict p))

-- Writing into an output with this much room: 10, 11, strict 7, 2 and 8, then 5 by the counted size, then 12 by the bytes.
unfoldable pub writing : Bool → Limit → ℕ → Stores → Packet → Answer ℕ
writing strict limit room s p =
    pick (is_too_long (lengths_of s)) (refused 10)
    (pick (bad_packet (lengths_of s) p) (refused 11)
    (onward (strictly strict p) (λ _. limited limit (counted strict p) (fitted room (bytes_written strict s p)))))

-- What every writer promises, each in its mode and at its limit, of its answer and of the output that is lent.
pub record ToBytes (strict : Bool) (limit : Limit) (p : Packet) (s : Stores) (old : List ℕ) (r : Result ℕ Refusal) (new : List ℕ) : Type 0 where
  pub answer : written r ≡ writing strict limit (length old) s p
  pub output : new ≡ after (writing strict limit (length old) s p) 0 (bytes_written strict s p) old

-- Both stores hold bytes: what the types say of any two that a function is lent.
pub record Held (s : Stores) : Type 0 where
  pub datagram : Bytes s.datagram
  pub edits : Bytes s.edits
