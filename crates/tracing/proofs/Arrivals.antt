-- Type, id and peer of a message stand in the trace where they are read: the first two at the front of the message's first chunk.
use Prim.Native.Nat.{ℕ, ◌+◌, ◌*◌, ◌/◌, ◌<◌, ◌≤◌, min}
use mathlib.Core.Path.{◌≡◌, refl, sym, ap, ◌∙◌}
use mathlib.Core.Bool.{true}
use mathlib.Core.List.{List, [], ◌∷◌, ◌++◌, append_assoc, append-nil}
use native.Mathlib.Omega.{arith}
use lib.ListN.{length, get_or, take, drop, replicate, length-take}
use lib.Seq.{take-take}
use borrow.Author.Tests.{le-ltb}
use Rattle.ground.specs.Part.{part, Bytes}
use Rattle.rfc.specs.Duplicates.{Arrival}
use Rattle.refusal.specs.Answer.{Answer, given, refused, Beside, beside}
use Rattle.ground.proofs.Part.{put_front, byte_at}
use Rattle.placing.specs.Put.{Puts}
use Rattle.placing.proofs.Puts.{puts_whole}
use Rattle.header.specs.Header.{new_raw, raw_in, header_of, number_of_type, type_of}
use Rattle.header.specs.declared.HeaderRaw.{HeaderRaw}
use Rattle.header.specs.declared.MessageType.{MessageType}
use Rattle.refusal.proofs.Answers.{on_given}
use Rattle.packet.specs.declared.Packet.{Packet}
use Rattle.reading.specs.Reading.{packet_of, reading}
use Rattle.reading.proofs.Taken.{Taken, taken}
use Rattle.stream.specs.declared.Form.{Form}
use Rattle.stream.specs.declared.Form.TheVariants.{Old, New}
use Rattle.stream.specs.Stream.{full, head_size, chunk_of, chunk_count, chunks_of}
use Rattle.stream.specs.Messages.{Found}
use Rattle.stream.proofs.Sound.{Message}
use Rattle.stream.proofs.Complete.{Chunked, chunk_complete, chunks_first, Parts, parts}
use Rattle.tracing.specs.Trace.{Timed}
use Rattle.tracing.specs.TimedMessages.{TimedFound, timed_at}
use Rattle.tracing.specs.Arrivals.{head_in, arrival_of, Coming, no_arrival, arrival_at}
use Rattle.tracing.proofs.Judging.{Measured}

-- A raw header is read from the first four bytes.
raw_front : (d : List ℕ) → 4 ≤ length d → raw_in (take 4 d) ≡ raw_in d
unfolding raw_in
raw_front [] h = absurd (omega arith)
raw_front (a ∷ []) h = absurd (omega arith)
raw_front (a ∷ b ∷ []) h = absurd (omega arith)
raw_front (a ∷ b ∷ c ∷ []) h = absurd (omega arith)
raw_front (a ∷ b ∷ c ∷ e ∷ d) h = sym (rw (le-ltb (length (a ∷ b ∷ c ∷ e ∷ d)) 4 h) refl)

-- What reading a raw header answers.
pub raw_read_lem : (x : List ℕ) (raw : HeaderRaw) → given raw ≡ raw_in x → raw ≡ head_in x
raw_read_lem x raw e = ap (λ (a : Answer HeaderRaw). (beside new_raw a).value) e

pub raw_missing : (x : List ℕ) (k : ℕ) → refused k ≡ raw_in x → new_raw ≡ head_in x
raw_missing x k e = ap (λ (a : Answer HeaderRaw). (beside new_raw a).value) e

-- An array of 18 that was filled is what it was filled with.
pub filled : (vs : List ℕ) (r : ℕ) (new : List ℕ) → length vs ≡ 18 → Puts (replicate 18 0) 0 vs r new → new ≡ vs
filled vs r new l p = (puts_whole p (omega arith)).out ∙ (put_front (replicate 18 0) vs (omega arith) ∙ rw l (append-nil vs))

full_four : (form : Form) → 4 ≤ full form
full_four Old = omega arith
full_four New = omega arith

module _ (form : Form) (s : List ℕ) (at : ℕ) (f : Found) (w : Message form s (at + 5) f) where
  message_parts : Parts form s (at + 5) f.message (drop f.next s)
  message_parts = parts form s (at + 5) f.message (drop f.next s) (omega (arith, w.room, w.inside)) w.sized.peer w.bytes

  pub peer_there : at + 6 + 18 ≤ length s
  peer_there = omega (arith, message_parts.inside)

  pub peer_is : part s (at + 6) 18 ≡ f.message.peer
  peer_is = let e : at + 5 + 1 ≡ at + 6 = omega arith in rw (← e) message_parts.peer

  -- The bytes of the first chunk.
  abbrev front : List ℕ
  front = take (full form) f.message.datagram

  front_length : length front ≡ min (full form) (length f.message.datagram)
  front_length = length-take (full form) f.message.datagram

  record First : Type 0 where
    inside : at + 24 + head_size form + length front ≤ length s
    bytes : part s (at + 24 + head_size form) (length front) ≡ front

  first : First
  first =
      let d : List ℕ = f.message.datagram in
      let more : List ℕ = chunks_of form (chunk_count form (length (drop (full form) d))) (drop (full form) d) in
      let e : at + 5 + 19 ≡ at + 24 = omega arith in
      let stands : drop (at + 24) s ≡ chunk_of form front ++ (more ++ (3 ∷ drop f.next s)) =
      ap (λ (n : ℕ). drop n s) (sym e)
      ∙ (message_parts.chunks
      ∙ (ap (λ (l : List ℕ). l ++ (3 ∷ drop f.next s)) (chunks_first form d (omega (arith, w.sized.least)))
      ∙ append_assoc (chunk_of form front) more (3 ∷ drop f.next s))) in
      let k : Chunked form s (at + 24) front (more ++ (3 ∷ drop f.next s)) =
      chunk_complete form s (at + 24) front (more ++ (3 ∷ drop f.next s)) (omega (arith, front_length, full_four form, w.sized.least)) (omega (arith, front_length)) (omega (arith, message_parts.inside)) stands in
      record { inside = omega (arith, k.inside); bytes = k.bytes }

  pub header_there : at + 24 + head_size form + 4 ≤ length s
  header_there = omega (arith, first.inside, front_length, full_four form, w.sized.least)

  pub header_is : head_in (part s (at + 24 + head_size form) 4) ≡ head_in f.message.datagram
  header_is =
      let d : List ℕ = f.message.datagram in
      let p : ℕ = at + 24 + head_size form in
      let four : part s p 4 ≡ take 4 d =
      sym (take-take 4 (length front) (drop p s) (omega (arith, front_length, full_four form, w.sized.least)))
      ∙ (ap (take 4) first.bytes ∙ take-take 4 (full form) d (full_four form)) in
      ap head_in four ∙ ap (λ (a : Answer HeaderRaw). (beside new_raw a).value) (raw_front d w.sized.least)

-- The id of a header that was read from bytes has 16 bits.
pub id_small : (m : Timed) → 4 ≤ length m.message.datagram → Bytes m.message.datagram → (arrival_of m).id < 65536
unfolding arrival_of header_of raw_in
id_small m h b =
    let d : List ℕ = m.message.datagram in
    let raw : HeaderRaw = record { ver_type_tkl = get_or d 0 0; code = get_or d 1 0; message_id = get_or d 2 0 * 256 + get_or d 3 0 } in
    let e : raw_in d ≡ given raw = rw (le-ltb (length d) 4 h) refl in
    omega (arith, ap (λ (a : Answer HeaderRaw). (beside new_raw a).value.message_id) e, byte_at d 2 b, byte_at d 3 b)

-- The header is that of the packet which strict reading makes of the datagram.
pub header_read : (d : List ℕ) (p : Packet) → Bytes d → reading true d ≡ given p → header_of (head_in d) ≡ p.header
unfolding packet_of
header_read d p b e =
    let t = on_given (Taken true d) (reading true d) p (taken true d b) e in
    ap (λ (a : Answer HeaderRaw). header_of (beside new_raw a).value) t.header ∙ sym (ap (λ (x : Packet). x.header) t.packet)

-- The message that was measured, with what was read of it.
module _ (form : Form) (s : List ℕ) (at : ℕ) where
  pub none_arrives : (k : ℕ) → timed_at form s at ≡ refused k → ◌≡◌ {A = Beside Coming} (record { answer = refused k; value = no_arrival }) (beside no_arrival (arrival_at form s at))
  none_arrives k e = rw e refl

  module _ (time len next : ℕ) (o : Measured form s at time len next) (raw : HeaderRaw) (is : raw ≡ head_in (part s (at + 24 + head_size form) 4)) (kind : MessageType) (tells : kind ≡ type_of (raw.ver_type_tkl / 16)) (peer : List ℕ) (stands : peer ≡ part s (at + 6) 18) where
    header : raw ≡ head_in o.found.timed.message.datagram
    header = is ∙ (header_is form s at o.stands.found o.stands.message ∙ ap (λ (x : TimedFound). head_in x.timed.message.datagram) (sym o.stands.value))

    same : arrival_of o.found.timed ≡ record { time = time; type = number_of_type kind; peer = peer; id = raw.message_id }
    unfolding arrival_of header_of
    same =
        let p : peer ≡ o.found.timed.message.peer = stands ∙ (peer_is form s at o.stands.found o.stands.message ∙ ap (λ (x : TimedFound). x.timed.message.peer) (sym o.stands.value)) in
        rw (tells, p, ← o.time_is, header) refl

    pub arrives : ◌≡◌ {A = Beside Coming} (record { answer = given tt; value = record { arrival = record { time = time; type = number_of_type kind; peer = peer; id = raw.message_id }; next = next } }) (beside no_arrival (arrival_at form s at))
    arrives = rw o.is (ap (λ (a : Arrival). record { answer = given tt; value = record { arrival = a; next = next } }) (sym same) ∙ ap (λ (n : ℕ). record { answer = given tt; value = record { arrival = arrival_of o.found.timed; next = n } }) (sym o.next_is))
