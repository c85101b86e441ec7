-- The answer of writing a packet (docs/RULES.md, Writing), by sizes alone: what is sent, the counted size, the limit, and the
-- order of refusals.
use Rattle.std.specs.Prelude.{ℕ, ◌+◌, Bool, true, false, not, ltb, eqb}
use Rattle.ground.specs.Choice.{pick, both, either}
use Rattle.refusal.specs.Answer.{Answer, given, refused, onward}
use Rattle.class.specs.Class.{byte_of}
use Rattle.class.specs.declared.MessageClass.{MessageClass}
use Rattle.class.specs.declared.MessageClass.TheVariants.{Empty, Request, Response, Reserved}
use Rattle.packet.specs.Limits.{max_size}
use Rattle.packet.specs.Packet.{nowhere, records_of}
use Rattle.packet.specs.declared.Packet.{Packet}
use Rattle.packet.specs.declared.Range.{Range}
use Rattle.judging.specs.Judge.{is_too_long, bad_packet, options_size}
use Rattle.judging.specs.declared.Lengths.{Lengths}
use Rattle.measuring.specs.declared.Limit.{Limit}
use Rattle.measuring.specs.declared.Limit.TheVariants.{Default, Given, Unlimited}

-- The payload that is sent: plain drops that of class `Empty`, and of no other class whose byte is 0.
abbrev pub sent_payload : Bool → MessageClass → Range → Range
sent_payload true class payload = payload
sent_payload false Empty payload = nowhere
sent_payload false (Request r) payload = payload
sent_payload false (Response r) payload = payload
sent_payload false (Reserved b) payload = payload

-- The marker before a payload of this length: one byte, and none before no payload.
unfoldable pub marker_size : ℕ → ℕ
marker_size len = pick (ltb 0 len) 1 0

-- The counted size: 4 + token + options + payload, a dropped payload too, plus 1 for a marker written.
abbrev pub counted : Bool → Packet → ℕ
counted strict p =
    4 + p.token.len + options_size 0 (records_of p) + p.payload.len
    + marker_size (sent_payload strict p.header.code p.payload).len

-- The size of the bytes: as counted, but without a payload that is dropped.
abbrev pub written_size : Bool → Packet → ℕ
written_size strict p =
    4 + p.token.len + options_size 0 (records_of p) + (sent_payload strict p.header.code p.payload).len
    + marker_size (sent_payload strict p.header.code p.payload).len

-- The size is over the limit: `max_size` by default, or the one given; without a limit none is.
abbrev pub over : Limit → ℕ → Bool
over Default size = ltb max_size size
over (Given limit) size = ltb limit size
over Unlimited size = false

-- Code byte 0 with a token, an option, even one of no bytes, or a payload.
abbrev pub empty_carries : Packet → Bool
empty_carries p =
    both (eqb (byte_of p.header.code) 0)
    (either (ltb 0 p.token.len) (either (ltb 0 p.count) (ltb 0 p.payload.len)))

-- What strict asks besides: a version that is not 1 gives 7, a token over 8 bytes 2, an empty message that carries 8.
unfoldable pub strictly : Bool → Packet → Answer (Unit {0})
strictly strict p =
    pick (both strict (not (eqb p.header.version 1))) (refused 7)
    (pick (both strict (ltb 8 p.token.len)) (refused 2)
    (pick (both strict (empty_carries p)) (refused 8) (given tt)))

-- What the size refuses before writing goes on: over the limit gives 5.
unfoldable pub limited : Limit → ℕ → Answer ℕ → Answer ℕ
limited limit size next = pick (over limit size) (refused 5) next

-- Bytes of this size for an output with this much room: their length, or NoRoom (12).
abbrev pub size_fitted : ℕ → ℕ → Answer ℕ
size_fitted room size = pick (ltb room size) (refused 12) (given size)

-- A good packet for an output with this much room: strict 7, 2 and 8, then 5 by the counted size, then 12 by the bytes.
abbrev pub sized : Bool → Limit → ℕ → Packet → Answer ℕ
sized strict limit room p = onward (strictly strict p) (λ _. limited limit (counted strict p) (size_fitted room (written_size strict p)))

-- A packet over stores of these lengths, for an output with this much room: a store over 70,000 bytes gives 10, a bad packet 11.
unfoldable pub measured : Bool → Limit → ℕ → Lengths → Packet → Answer ℕ
measured strict limit room lengths p =
    pick (is_too_long lengths) (refused 10) (pick (bad_packet lengths p) (refused 11) (sized strict limit room p))
