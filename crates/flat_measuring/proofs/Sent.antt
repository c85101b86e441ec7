-- The payload that is sent, by the code byte: no byte but 0 is that of the empty message.
use Prim.Native.Nat.{ℕ, ◌+◌, ◌≤◌}
use mathlib.Core.Path.{◌≡◌, refl, sym, ◌∙◌}
use mathlib.Core.Bool.{Bool, true, false}
use mathlib.Core.List.{List}
use native.Mathlib.Omega.{arith}
use lib.ListN.{get_or}
use lib.Dec.{ltb, eqb}
use Rattle.ground.specs.Choice.{pick, both, either}
use Rattle.ground.proofs.Choice.{on, on_eq}
use Rattle.class.specs.Class.{byte_of, class_of}
use Rattle.class.specs.declared.MessageClass.{MessageClass}
use Rattle.class.specs.declared.MessageClass.TheVariants.{Empty, Request, Response, Reserved}
use Rattle.class.proofs.Class.{byte_back}
use Rattle.packet.specs.Packet.{nowhere, records_of}
use Rattle.packet.specs.declared.Range.{Range}
use Rattle.judging.specs.Judge.{options_size}
use Rattle.measuring.specs.Measuring.{sent_payload, marker_size, written_size, empty_carries}
use Rattle.unflat.specs.Unflat.{header_in, range_at, packet_in}
use Rattle.flat_measuring.specs.FlatMeasuring.{dropped, sent_in}

pub empty_class : class_of 0 ≡ Empty
unfolding class_of
empty_class = refl

-- A class of another byte than 0 keeps its payload.
pub sent_other : (strict : Bool) (class : MessageClass) (payload : Range) → (byte_of class ≡ 0 → ⊥) → sent_payload strict class payload ≡ payload
sent_other true class payload h = refl
sent_other false Empty payload h = absurd (h refl)
sent_other false (Request r) payload h = refl
sent_other false (Response r) payload h = refl
sent_other false (Reserved b) payload h = refl

sent_code : (strict : Bool) (code : ℕ) (payload : Range) → sent_payload strict (class_of code) payload ≡ pick (dropped strict code) nowhere payload
unfolding dropped
sent_code true code payload = refl
sent_code false code payload =
    on_eq (λ (r : Range). sent_payload false (class_of code) payload ≡ r) code 0 (λ e. rw (e, empty_class))
    (λ e. sent_other false (class_of code) payload (λ z. e (sym (byte_back code) ∙ z)))

pub sent_is : (strict : Bool) (l : List ℕ) → sent_payload strict (packet_in l).header.code (packet_in l).payload ≡ sent_in strict l
unfolding packet_in header_in
sent_is strict l = sent_code strict (get_or l 2 0) (range_at l 7)

pub sent_small : (strict : Bool) (l : List ℕ) → (sent_in strict l).len ≤ get_or l 9 0
sent_small strict l = on (λ (r : Range). r.len ≤ get_or l 9 0) (dropped strict (get_or l 2 0)) (λ _. omega arith) (λ _. omega arith)

-- The size of what is written, by the numbers.
token_is : (l : List ℕ) → (packet_in l).token.len ≡ get_or l 6 0
unfolding packet_in
token_is l = refl

pub written_is : (strict : Bool) (l : List ℕ) → written_size strict (packet_in l) ≡ 4 + get_or l 6 0 + options_size 0 (records_of (packet_in l)) + ((sent_in strict l).len + marker_size (sent_in strict l).len)
written_is strict l = rw (sent_is strict l, token_is l) (omega arith)

-- Code byte 0 with a token, an option or a payload.
pub carries_is : (l : List ℕ) → empty_carries (packet_in l) ≡ both (eqb (get_or l 2 0) 0) (either (ltb 0 (get_or l 6 0)) (either (ltb 0 (get_or l 10 0)) (ltb 0 (get_or l 9 0))))
unfolding packet_in header_in
carries_is l = rw (byte_back (get_or l 2 0))
