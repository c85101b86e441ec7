-- Reading a datagram, plain and strict: the order of refusals, and the packet of an accepted one.
use Rattle.std.specs.Prelude.{ℕ, ◌+◌, ◌-◌, ◌≡◌, Bool, not, List, ◌++◌, length, replicate, ltb, eqb, Result, Ok, Err}
use Rattle.ground.specs.Choice.{pick, both, either}
use Rattle.refusal.specs.Answer.{Answer, given, refused, onward, Beside, beside}
use Rattle.refusal.specs.Number.{number_of}
use Rattle.refusal.specs.declared.Refusal.{Refusal}
use Rattle.header.specs.Header.{version_of, token_of, header_of, raw_in}
use Rattle.header.specs.declared.HeaderRaw.{HeaderRaw}
use Rattle.packet.specs.Limits.{max_store, max_options, max_value, max_plain_value}
use Rattle.packet.specs.Packet.{none, in_datagram, new_packet}
use Rattle.packet.specs.declared.Packet.{Packet}
use Rattle.reading.specs.Options.{Tail, options}

-- The longest value of an option: 65535 bytes plain, 65804 strict.
abbrev pub longest : Bool → ℕ
longest strict = pick strict max_value max_plain_value

-- The packet of a datagram that was read: its token after the header, its records in the array's first places and the empty
-- record in the others, its payload to the end; an empty range names the datagram too.
unfoldable pub packet_of : List ℕ → HeaderRaw → Tail → Packet
packet_of s raw t =
    record {
      header = header_of raw;
      token = in_datagram 4 (token_of raw);
      count = length t.records;
      options = t.records ++ replicate (max_options - length t.records) none;
      payload = in_datagram t.payload (length s - t.payload);
    }

-- The packet once the options are read: a marker that ends the datagram gives strict 9.
unfoldable pub finished : Bool → List ℕ → HeaderRaw → Tail → Answer Packet
finished strict s raw t =
    pick (both strict (both t.marked (eqb t.payload (length s)))) (refused 9) (given (packet_of s raw t))

-- What follows a header: strict 7, 2, strict 8, then the options.
unfoldable pub after_header : Bool → List ℕ → HeaderRaw → Answer Packet
after_header strict s raw =
    pick (both strict (not (eqb (version_of raw) 1))) (refused 7)
    (pick (either (ltb 8 (token_of raw)) (ltb (length s) (4 + token_of raw))) (refused 2)
    (pick (both strict (both (eqb raw.code 0) (either (ltb 4 (length s)) (not (eqb (token_of raw) 0))))) (refused 8)
    (onward (options (longest strict) s max_options 0 (4 + token_of raw)) (finished strict s raw))))

-- Reading: 10, 1, then what follows the header.
unfoldable pub reading : Bool → List ℕ → Answer Packet
reading strict s = pick (ltb max_store (length s)) (refused 10) (onward (raw_in s) (after_header strict s))

-- The answer of a reader: how it ended, and the packet beside it, which is the new packet beside a refusal.
abbrev pub decoded : Result Packet Refusal → Beside Packet
decoded (Ok p) = record { answer = given tt; value = p }
decoded (Err e) = record { answer = refused (number_of e); value = new_packet }

-- What reading promises: an accepted datagram gives its packet; beside a refusal stands the new packet.
abbrev pub FromBytes : Bool → List ℕ → Result Packet Refusal → Type 0
FromBytes strict s d = decoded d ≡ beside new_packet (reading strict s)
