-- A datagram that was read and is written again is its own bytes: up to the end of its options where no payload is sent, and
-- else all of them.
use Prim.Native.Nat.{ℕ, zero, suc, ◌+◌, ◌-◌, ◌<◌, ◌≤◌}
use mathlib.Core.Path.{◌≡◌, refl, sym, ap, subst, ◌∙◌}
use mathlib.Core.Bool.{Bool, true, false}
use mathlib.Core.List.{List, [], append-nil}
use native.Mathlib.Omega.{arith}
use lib.ListN.{length, take, drop, get_or, length-drop, length-append, drop_of_length-le}
use lib.Seq.{take_at, take-length}
use lib.Dec.{eqb}
use borrow.Author.Tests.{le-ltb, le-leb, ne_eqb}
use Rattle.ground.specs.Choice.{both}
use Rattle.ground.specs.Part.{Bytes}
use Rattle.ground.proofs.Choice.{on_le, on_eq}
use Rattle.rfc.specs.Message.{Message, layout, header_layout}
use Rattle.refusal.specs.Answer.{Answer, given, refused, fitted, after}
use Rattle.refusal.proofs.Answers.{Given, given_onward, on_given}
use Rattle.class.specs.Class.{byte_of, class_of}
use Rattle.class.specs.declared.MessageClass.{MessageClass}
use Rattle.class.specs.declared.MessageClass.TheVariants.{Empty, Request, Response, Reserved}
use Rattle.class.proofs.Class.{byte_back}
use Rattle.header.specs.Header.{header_of, token_of, raw_in}
use Rattle.header.specs.declared.HeaderRaw.{HeaderRaw}
use Rattle.packet.specs.Packet.{stores, nowhere, bytes_in, bytes_of}
use Rattle.packet.specs.Limits.{max_store}
use Rattle.packet.specs.Meaning.{meaning}
use Rattle.packet.specs.declared.Packet.{Packet}
use Rattle.packet.specs.declared.Range.{Range}
use Rattle.judging.specs.Judge.{is_too_long, lengths_of}
use Rattle.judging.proofs.Good as Judged
use Rattle.option_reading.specs.Option.{place_at, end}
use Rattle.reading.specs.Options.{Tail, before, options}
use Rattle.reading.specs.Reading.{longest, packet_of, reading}
use Rattle.reading.proofs.Sound.{Ended, Stands, stands, marks, given_place}
use Rattle.reading.proofs.Taken.{Taken, taken}
use Rattle.reading.proofs.Accept.{meant, unpaid, means, laid_out, laid_before, rest_bytes, accepted, records_found, found as follows}
use Rattle.reading.proofs.Kept.{Kept, kept}
use Rattle.measuring.specs.Measuring.{sent_payload, strictly, limited}
use Rattle.measuring.specs.declared.Limit.TheVariants.{Unlimited}
use Rattle.writing.specs.Writing.{bytes_written, writing}
use Rattle.writing.proofs.Strict.{passes, wellformed_strict}
use Rattle.flat_writing.specs.FlatWriting.{copying, packet_of as packet_in}
use Rattle.flat_measuring.proofs.Sent.{empty_class, sent_other}
use Rattle.ffi.specs.Copied.{sent_end}
use Rattle.scanning.specs.Scanning.{Span, last_end, span_of, judged}
use Rattle.scanning.proofs.Judged.{given_read}

-- The marker is a byte, where there is one.
abbrev mark : Bool → ℕ
mark true = 1
mark false = 0

ended_at : (s : List ℕ) (at : ℕ) (marked : Bool) (payload : ℕ) → at ≤ length s → Ended s at marked payload → at + mark marked ≡ payload
ended_at s at true payload h e =
    let n : length s - at ≡ suc (length s - payload) = sym (length-drop at s) ∙ (ap length e.bytes ∙ ap suc (length-drop payload s)) in
    omega (arith, n, e.inside)
ended_at s at false payload h e =
    let n : length s - at ≡ length s - payload = sym (length-drop at s) ∙ (ap length e.bytes ∙ length-drop payload s) in
    omega (arith, n, e.unmarked refl)

-- The options end where the marker stands, or the payload starts.
abbrev EndsAt : ℕ → Tail → Type 0
EndsAt at t = last_end at t.records + mark t.marked ≡ t.payload

options_end : (longest : ℕ) (s : List ℕ) → Bytes s → (room number at : ℕ) → at ≤ length s → Given (EndsAt at) (options longest s room number at)
unfolding options
options_end longest s b zero number at h =
    given_place (Stands s number at) (EndsAt at) (place_at longest s number at) _ (stands longest s b number at h) (λ marked payload e. ended_at s at marked payload h e) (λ r l. tt)
options_end longest s b (suc room) number at h =
    given_place (Stands s number at) (EndsAt at) (place_at longest s number at) _ (stands longest s b number at h) (λ marked payload e. ended_at s at marked payload h e)
    (λ r l. given_onward (EndsAt (end r)) (EndsAt at) (options longest s room r.number (end r)) (before r) (options_end longest s b room r.number (end r) l.inside) (λ t q. q))

marks_length : (marked : Bool) (l : List ℕ) → length (marks marked l) ≡ mark marked + length l
marks_length true l = omega arith
marks_length false l = omega arith

-- What holds of the payload and of none holds of what is sent.
sent_either : (P : Range → Type 0) (strict : Bool) (class : MessageClass) (payload : Range) → P payload → P nowhere → P (sent_payload strict class payload)
sent_either P true class payload h n = h
sent_either P false Empty payload h n = n
sent_either P false (Request r) payload h n = h
sent_either P false (Response r) payload h n = h
sent_either P false (Reserved b) payload h n = h

raw_code : (s : List ℕ) (raw : HeaderRaw) → 4 ≤ length s → raw_in s ≡ given raw → raw.code ≡ get_or s 1 0
unfolding raw_in
raw_code s raw h e = let f = rw (le-ltb (length s) 4 h) at e in cc

module _ (strict : Bool) (s : List ℕ) (b : Bytes s) (p : Packet) (k : Taken strict s p) where
  -- The bytes before the end of the options.
  bare_length : length (layout (unpaid (meant s k.raw k.tail))) + (mark k.tail.marked + (length s - k.tail.payload)) ≡ length s
  bare_length =
      ap (λ (n : ℕ). length (layout (unpaid (meant s k.raw k.tail))) + n) (sym (marks_length k.tail.marked (drop k.tail.payload s) ∙ ap (λ (n : ℕ). mark k.tail.marked + n) (length-drop k.tail.payload s)))
      ∙ (sym (length-append (layout (unpaid (meant s k.raw k.tail))) (marks k.tail.marked (drop k.tail.payload s))) ∙ ap length (laid_before strict s b p k))

  four : (m : Message) → 4 ≤ length (layout m)
  unfolding layout header_layout
  four m = omega arith

  span_end : (span_of p).end ≡ last_end (4 + token_of k.raw) k.tail.records
  unfolding packet_of
  span_end = rw (k.packet, records_found s k.raw k.tail)

  ends : last_end (4 + token_of k.raw) k.tail.records + mark k.tail.marked ≡ k.tail.payload
  ends = on_given (EndsAt (4 + token_of k.raw)) (options (longest strict) s 128 0 (4 + token_of k.raw)) k.tail (options_end (longest strict) s b 128 0 (4 + token_of k.raw) k.token_inside) k.options

  end_is : (span_of p).end ≡ length (layout (unpaid (meant s k.raw k.tail)))
  end_is = omega (arith, span_end, ends, bare_length, (follows strict s b p k).inside)

  before_end : take (span_of p).end s ≡ layout (unpaid (meant s k.raw k.tail))
  before_end =
      ap (λ (l : List ℕ). take (span_of p).end l) (sym (laid_before strict s b p k))
      ∙ take_at (layout (unpaid (meant s k.raw k.tail))) (marks k.tail.marked (drop k.tail.payload s)) (span_of p).end (sym end_is)

  payload_is : (span_of p).payload ≡ k.tail.payload
  unfolding packet_of
  payload_is = rw k.packet

  -- Nothing is sent, or the payload.
  none_sent : bytes_of (stores s []) (sent_payload strict p.header.code p.payload) ≡ [] → bytes_written strict (stores s []) p ≡ take (span_of p).end s
  none_sent e =
      let m = meaning (stores s []) p in
      ap (λ (l : List ℕ). layout (record { version = m.version; type = m.type; code = m.code; id = m.id; token = m.token; options = m.options; payload = l })) e
      ∙ (ap (λ (m : Message). layout (unpaid m)) (means strict s b p k []) ∙ sym before_end)

  all_sent : sent_payload strict p.header.code p.payload ≡ p.payload → k.tail.payload < length s → bytes_written strict (stores s []) p ≡ take (length s) s
  all_sent e h =
      let m = meaning (stores s []) p in
      let whole : both k.tail.marked (eqb k.tail.payload (length s)) ≡ false = not_bare k.tail.marked k.tail.payload (length s) h in
      ap (λ (r : Range). layout (record { version = m.version; type = m.type; code = m.code; id = m.id; token = m.token; options = m.options; payload = bytes_of (stores s []) r })) e
      ∙ (ap layout (means strict s b p k []) ∙ (sym (append-nil _) ∙ ((rw whole at (laid_out strict s b p k)) ∙ sym (take-length s))))
    where
      not_bare : (marked : Bool) (payload n : ℕ) → payload < n → both marked (eqb payload n) ≡ false
      not_bare true payload n h = ne_eqb payload n (λ e. omega (arith, e))
      not_bare false payload n h = refl

  empty_range : length s ≤ k.tail.payload → bytes_of (stores s []) p.payload ≡ []
  unfolding packet_of
  empty_range h = rw k.packet (rest_bytes s k.tail.payload (follows strict s b p k).inside ∙ drop_of_length-le s {i = k.tail.payload} h)

  nowhere_none : bytes_of (stores s []) nowhere ≡ []
  unfolding bytes_in
  nowhere_none = rw (le-leb 0 (length s) (omega arith))

  code_is : byte_of p.header.code ≡ get_or s 1 0
  unfolding packet_of header_of
  code_is = rw (k.packet, byte_back k.raw.code) (raw_code s k.raw k.small.long k.header)

  class_is : p.header.code ≡ class_of (get_or s 1 0)
  unfolding packet_of header_of
  class_is = rw k.packet (ap class_of (raw_code s k.raw k.small.long k.header))

  -- The payload of code 0 is not sent: strict takes none.
  dropped : (mode : Bool) → strict ≡ mode → get_or s 1 0 ≡ 0 → k.tail.payload < length s → bytes_of (stores s []) (sent_payload mode p.header.code p.payload) ≡ []
  dropped true m e h =
      absurd (omega (arith, k.empty m (raw_code s k.raw k.small.long k.header ∙ e), four (unpaid (meant s k.raw k.tail)), end_is, span_end, ends))
  dropped false m e h = rw (class_is, e, empty_class) nowhere_none

  pub again_bytes : bytes_written strict (stores s []) p ≡ take (sent_end s (span_of p).end (span_of p).payload) s
  unfolding sent_end
  again_bytes =
      let P : ℕ → Type 0 = λ n. bytes_written strict (stores s []) p ≡ take n s in
      subst (λ (n : ℕ). bytes_written strict (stores s []) p ≡ take (sent_end s (span_of p).end n) s) (sym payload_is)
      (on_le P (length s) k.tail.payload
      (λ h. none_sent (sent_either (λ (r : Range). bytes_of (stores s []) r ≡ []) strict p.header.code p.payload (empty_range h) nowhere_none))
      (λ h. on_eq P (get_or s 1 0) 0 (λ e. none_sent (dropped strict refl e h)) (λ e. all_sent (sent_other strict p.header.code p.payload (λ z. e (sym code_is ∙ z))) h)))

  module _ (read : reading strict s ≡ given p) where
    keeps : Kept s p
    keeps = on_given (Kept s) (reading strict s) p (kept strict s b) read

    strict_passes : (mode : Bool) → strict ≡ mode → strictly mode p ≡ given tt
    unfolding strictly
    strict_passes true m =
        let w = (on_given _ (reading true s) p (accepted s b) (ap (λ (x : Bool). reading x s) (sym m) ∙ read) []).0 in
        passes p (wellformed_strict (stores s []) p keeps.1 (Judged.good (lengths_of (stores s [])) p (keeps.0 [])) w)
    strict_passes false m = refl

    pub again_answer : (room : ℕ) → writing strict Unlimited room (stores s []) p ≡ fitted room (bytes_written strict (stores s []) p)
    unfolding writing is_too_long limited
    again_answer room = rw (le-ltb max_store (length s) k.fits, keeps.0 [], strict_passes strict refl)

-- What copying shows of a datagram that was judged good.
pub record Again (strict : Bool) (s : List ℕ) (m : Span) : Type 0 where
  pub long : 2 ≤ length s
  pub within : sent_end s m.end m.payload ≤ length s
  pub answer : (room : ℕ) → copying strict room (stores s []) (reading strict s) ≡ fitted room (take (sent_end s m.end m.payload) s)
  pub bytes : bytes_written strict (stores s []) (packet_in (reading strict s)) ≡ take (sent_end s m.end m.payload) s

end_within : (s : List ℕ) (end payload : ℕ) → end ≤ length s → sent_end s end payload ≤ length s
unfolding sent_end
end_within s end payload h =
    on_le (λ (n : ℕ). n ≤ length s) (length s) payload (λ l. h) (λ l. on_eq (λ (n : ℕ). n ≤ length s) (get_or s 1 0) 0 (λ e. h) (λ e. omega arith))

pub again : (strict : Bool) (s : List ℕ) → Bytes s → (m : Span) → given m ≡ judged strict s → Again strict s m
again strict s b m e =
    let g = given_read (reading strict s) m e in
    let p = g.0 in
    let k = on_given (Taken strict s) (reading strict s) p (taken strict s b) g.1 in
    let all = again_bytes strict s b p k in
    subst (Again strict s) (sym g.2)
    (record {
      long = omega (arith, k.small.long);
      within = end_within s (span_of p).end (span_of p).payload (omega (arith, end_is strict s b p k, bare_length strict s b p k));
      answer = λ room. ap (copying strict room (stores s [])) g.1 ∙ (again_answer strict s b p k g.1 room ∙ ap (fitted room) all);
      bytes = ap (λ (a : Answer Packet). bytes_written strict (stores s []) (packet_in a)) g.1 ∙ all;
    })

-- What copying answers, and what the output then holds.
module _ (strict : Bool) (s old : List ℕ) where
  pub again_refused : (k : ℕ) → reading strict s ≡ refused k
      → (refused k ≡ copying strict (length old) (stores s []) (reading strict s)) × (old ≡ after (copying strict (length old) (stores s []) (reading strict s)) 0 (bytes_written strict (stores s []) (packet_in (reading strict s))) old)
  again_refused k e = rw e (refl, refl)

  pub again_put : (m : Span) → Again strict s m → (new : List ℕ) (r : Answer ℕ)
      → (r ≡ fitted (length old) (take (sent_end s m.end m.payload) s)) × (new ≡ after (fitted (length old) (take (sent_end s m.end m.payload) s)) 0 (take (sent_end s m.end m.payload) s) old)
      → (r ≡ copying strict (length old) (stores s []) (reading strict s)) × (new ≡ after (copying strict (length old) (stores s []) (reading strict s)) 0 (bytes_written strict (stores s []) (packet_in (reading strict s))) old)
  again_put m a new r h = rw (a.answer (length old), a.bytes) h
