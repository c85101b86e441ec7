-- Writing the packet of a flat form over two stores, without a limit.
use Rattle.std.specs.Prelude.{ℕ, Bool, List}
use Rattle.ground.specs.Choice.{pick}
use Rattle.refusal.specs.Answer.{Answer, refused, onward, beside}
use Rattle.packet.specs.Packet.{Stores, new_packet}
use Rattle.packet.specs.declared.Packet.{Packet}
use Rattle.judging.specs.Judge.{lengths_of, is_too_long}
use Rattle.measuring.specs.declared.Limit.TheVariants.{Unlimited}
use Rattle.writing.specs.Writing.{writing}
use Rattle.unflat.specs.Unflat.{unflat}

-- The packet of an answer; the new packet stands beside a refusal.
abbrev pub packet_of : Answer Packet → Packet
packet_of a = (beside new_packet a).value

-- The packet of numbers over two stores: one over 70,000 bytes gives TooLong (10) before the numbers are looked at.
unfoldable pub packet_over : Stores → List ℕ → Answer Packet
packet_over s l = pick (is_too_long (lengths_of s)) (refused 10) (unflat l)

-- The answer of writing the packet of an answer into an output with this much room; a refusal stays what it is.
abbrev pub copying : Bool → ℕ → Stores → Answer Packet → Answer ℕ
copying strict room s a = onward a (writing strict Unlimited room s)
