-- What the listing program prints.
use Rattle.std.specs.Prelude.{ℕ, ◌≤◌, ◌≡◌, true, List, [], length, ltb}
use Rattle.ground.specs.Choice.{pick}
use Rattle.rfc.specs.Message.{Message, WellFormed, layout}
use Rattle.packet.specs.Meaning.{meaning}
use Rattle.refusal.specs.Answer.{beside, Beside}
use Rattle.packet.specs.Packet.{stores, new_packet}
use Rattle.packet.specs.declared.Packet.{Packet}
use Rattle.reading.specs.Reading.{reading}
use Rattle.lines.specs.Lines.{lines_of, refusal_line, message_lines}

-- The byte that ends a line.
abbrev pub newline : ℕ
newline = 10

-- What a reader's answer to a datagram prints.
abbrev pub answer : List ℕ → Beside Packet → List ℕ
answer s r = lines_of newline r.answer (meaning (stores s []) r.value)

-- The lines of a datagram that is read strictly; one over 65,535 bytes is TooLong (10).
unfoldable pub listing : List ℕ → List ℕ
listing s = pick (ltb 65535 (length s)) (refusal_line newline 10) (answer s (beside new_packet (reading true s)))

-- The listing of a message's layout is the lines of that message.
abbrev pub ListsLayouts : Type 0
ListsLayouts = (m : Message) → WellFormed m → length (layout m) ≤ 65535 → listing (layout m) ≡ message_lines newline m
