-- The sizes of what is written: the bytes of a good packet are as many as were counted.
use Prim.Native.Nat.{ℕ, ◌+◌, ◌<◌, ◌≤◌}
use mathlib.Core.Path.{◌≡◌, refl, ◌∙◌}
use mathlib.Core.Bool.{Bool, true, false}
use mathlib.Core.List.{List, [], ◌∷◌, map}
use native.Mathlib.Omega.{arith}
use lib.ListN.{length, length-append}
use borrow.Author.Tests.{lt-ltb}
use Rattle.rfc.specs.Message.{Message, option_layout, options_layout, payload_layout, header_layout, layout}
use Rattle.ground.proofs.Choice.{neither}
use Rattle.class.specs.declared.MessageClass.{MessageClass}
use Rattle.class.specs.declared.MessageClass.TheVariants.{Empty, Request, Response, Reserved}
use Rattle.packet.specs.Packet.{Stores, value_of, records_of}
use Rattle.packet.specs.Meaning.{option_of, meaning}
use Rattle.judging.specs.Judge.{lengths_of, length_in, bad_value, bad_values, option_size, options_size}
use Rattle.judging.specs.declared.Lengths.{Lengths}
use Rattle.packet.specs.declared.Packet.{Packet}
use Rattle.packet.specs.declared.Range.{Range}
use Rattle.packet.specs.declared.OptionRecord.{OptionRecord}
use Rattle.judging.proofs.Good.{Good}
use Rattle.judging.proofs.Ranges.{range_exactly, value_exactly}
use Rattle.laying.proofs.Pieces.{extension_length, option_length}
use Rattle.measuring.specs.Measuring.{sent_payload, marker_size, counted, written_size}
use Rattle.writing.specs.Writing.{sent, bytes_written}

-- The lengths of an option of a good value, and of all of them, are those that are counted.
pub option_exactly : (s : Stores) (before : ℕ) (r : OptionRecord) → bad_value (lengths_of s) r ≡ false → length (option_layout before (option_of s r)) ≡ option_size before r
unfolding option_size
option_exactly s before r e =
    let n : length (value_of s r) ≡ r.len = value_exactly s r e in
    option_length before (option_of s r) ∙ rw (n, extension_length, extension_length)

pub options_exactly : (s : Stores) (before : ℕ) (rs : List OptionRecord) → bad_values (lengths_of s) rs ≡ false → length (options_layout before (map (option_of s) rs)) ≡ options_size before rs
options_exactly s before [] e = refl
options_exactly s before (r ∷ rs) e =
    let both = neither (bad_value (lengths_of s) r) (bad_values (lengths_of s) rs) e in
    rw (length-append, option_exactly s before r both.0, options_exactly s r.number rs both.1)

-- A payload takes its own bytes and its marker's.
pub payload_length : (bytes : List ℕ) → length (payload_layout bytes) ≡ length bytes + marker_size (length bytes)
unfolding marker_size
payload_length [] = refl
payload_length (b ∷ bs) = let h : 0 < length (b ∷ bs) = omega arith in rw (lt-ltb 0 (length (b ∷ bs)) h) (omega arith)

-- The length of a message by its parts.
pub message_length : (m : Message) → length (layout m) ≡ 4 + length m.token + length (options_layout 0 m.options) + length (payload_layout m.payload)
unfolding layout header_layout
message_length m = simp length-append (omega arith)

-- The payload that is sent is inside its store where the packet's is.
pub sent_inside : (lengths : Lengths) (strict : Bool) (class : MessageClass) (payload : Range) → payload.start + payload.len ≤ length_in lengths payload.home
    → (sent_payload strict class payload).start + (sent_payload strict class payload).len ≤ length_in lengths (sent_payload strict class payload).home
sent_inside lengths true class payload h = h
sent_inside lengths false Empty payload h = omega arith
sent_inside lengths false (Request r) payload h = h
sent_inside lengths false (Response r) payload h = h
sent_inside lengths false (Reserved b) payload h = h

-- The bytes of a good packet, as many as `written_size` says.
pub written_length : (strict : Bool) (s : Stores) (p : Packet) → Good (lengths_of s) p → length (bytes_written strict s p) ≡ written_size strict p
written_length strict s p g =
    let q = sent_payload strict p.header.code p.payload in
    let token = range_exactly s p.token g.token in
    let payload = range_exactly s q (sent_inside (lengths_of s) strict p.header.code p.payload g.payload) in
    let options = options_exactly s 0 (records_of p) g.values in
    message_length (meaning s (sent strict p)) ∙ rw (token, options, payload_length, payload) (omega arith)

-- What is counted is what is written, and a payload that is dropped; so strict counts what it writes.
pub counted_written : (strict : Bool) (s : Stores) (p : Packet) → Good (lengths_of s) p
    → counted strict p + (sent_payload strict p.header.code p.payload).len ≡ length (bytes_written strict s p) + p.payload.len
counted_written strict s p g = rw (written_length strict s p g) (omega arith)

pub strict_counted : (s : Stores) (p : Packet) → Good (lengths_of s) p → length (layout (meaning s p)) ≡ counted true p
strict_counted s p g = written_length true s p g
