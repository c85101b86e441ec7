-- The messages of a trace as the duplicate rule asks for them: type and message id are those in the header of the datagram.
use Rattle.std.specs.Prelude.{ℕ, List, map, replicate, Result, Ok, Err}
use Rattle.rfc.specs.Duplicates.{Arrival}
use Rattle.refusal.specs.Answer.{Answer, given, refused, onward, Beside, beside}
use Rattle.refusal.specs.Number.{number_of}
use Rattle.refusal.specs.declared.Refusal.{Refusal}
use Rattle.header.specs.Header.{new_raw, raw_in, header_of, number_of_type}
use Rattle.header.specs.declared.HeaderRaw.{HeaderRaw}
use Rattle.stream.specs.declared.Form.{Form}
use Rattle.tracing.specs.Trace.{Timed}
use Rattle.tracing.specs.TimedMessages.{timed_at}
use Rattle.tracing.specs.declared.Arrived.{Arrived}

-- The raw header that a datagram starts with. (Every datagram of a trace has its four bytes; with fewer it is a new one.)
abbrev pub head_in : List ℕ → HeaderRaw
head_in d = (beside new_raw (raw_in d)).value

-- A message by its time, the type and the id of its header, and its peer.
unfoldable pub arrival_of : Timed → Arrival
arrival_of m =
    record {
      time = m.time;
      type = number_of_type (header_of (head_in m.message.datagram)).message_type;
      peer = m.message.peer;
      id = (header_of (head_in m.message.datagram)).message_id;
    }

abbrev pub arrivals_of : List Timed → List Arrival
arrivals_of l = map arrival_of l

-- One that was found, and the position after it.
pub record Coming : Type 0 where
  pub arrival : Arrival
  pub next : ℕ

abbrev pub arrival_at : Form → List ℕ → ℕ → Answer Coming
arrival_at form s at = onward (timed_at form s at) (λ m. given (record { arrival = arrival_of m.timed; next = m.next }))

-- What stands beside a refusal.
abbrev pub no_arrival : Coming
no_arrival = record { arrival = record { time = 0; type = 0; peer = replicate 18 0; id = 0 }; next = 0 }

-- The message that was read, and the position after it.
abbrev pub coming_of : Arrived → Coming
coming_of a =
    record {
      arrival = record { time = a.time; type = number_of_type a.kind; peer = a.peer; id = a.id };
      next = a.next;
    }

-- The answer of reading one: how it ended, and the message beside it.
abbrev pub arrived_in : Result Arrived Refusal → Beside Coming
arrived_in (Ok a) = record { answer = given tt; value = coming_of a }
arrived_in (Err e) = record { answer = refused (number_of e); value = no_arrival }
