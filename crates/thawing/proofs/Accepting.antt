-- A message judged with its datagram: each way out, and what an accepted one says.
use Prim.Native.Nat.{ℕ, ◌+◌, ◌-◌, ◌<◌, ◌≤◌, min}
use mathlib.Core.Path.{◌≡◌, refl, sym, ap, ◌∙◌}
use mathlib.Core.Bool.{true}
use mathlib.Core.List.{List, []}
use native.Mathlib.Omega.{arith}
use lib.ListN.{length}
use lib.Seq.{take_all}
use Rattle.ground.specs.Part.{part}
use Rattle.refusal.specs.Answer.{Answer, given, refused, onward}
use Rattle.refusal.proofs.Answers.{not_refused, same_given, same_refused, on_given}
use Rattle.packet.specs.declared.Packet.{Packet}
use Rattle.reading.specs.Reading.{reading}
use Rattle.stream.specs.declared.Form.{Form}
use Rattle.stream.specs.Stream.{full, head_size}
use Rattle.stream.specs.Messages.{body_at, Found, message_at}
use Rattle.stream.specs.Answers.{Extent}
use Rattle.stream.proofs.Sound.{Message, message_sound}
use Rattle.stream.proofs.Walk.{Whole}
use Rattle.thawing.specs.Message.{body_bytes, extent_of, strict_before, strict_at}
use Rattle.thawing.proofs.Message.{whole_bytes, whole_length}
use Rattle.thawing.proofs.Copy.{copy_start, copy_part, copy_inside}

module _ (d : List ℕ) (next : ℕ) where
  pub before_refused : (k : ℕ) → reading true d ≡ refused k → refused k ≡ strict_before d next
  before_refused k e = rw e refl

  pub before_given : (p : Packet) → reading true d ≡ given p → given (record { len = length d; next = next }) ≡ strict_before d next
  before_given p e = rw e refl

module _ (form : Form) (s : List ℕ) (at : ℕ) where
  pub strict_bad : (k : ℕ) → message_at form s at ≡ refused k → strict_at form s at ≡ refused k
  unfolding strict_at
  strict_bad k e = rw e refl

  module _ (len next : ℕ) (o : Whole form s at len next) where
    -- The datagram judged is the message judged.
    pub strict_is : (a : Answer Extent) → a ≡ strict_before (body_bytes (body_at form s (length s) (full form) (at + 19))) next → a ≡ strict_at form s at
    unfolding strict_at
    strict_is a e = rw (o.is, o.next_is) (e ∙ ap (λ (d : List ℕ). strict_before d next) (whole_bytes form s at len next o))

    -- A datagram of one chunk stands in the stream in one piece.
    module _ (one : len ≤ full form) where
      bytes : List ℕ
      bytes = body_bytes (body_at form s (length s) (full form) (at + 19))

      is_len : len ≡ length bytes
      unfolding bytes
      is_len = whole_length form s at len next o

      least : len ≡ min (full form) (length bytes - 0)
      least = omega (arith, is_len)

      some : 0 < length bytes
      some = omega (arith, is_len, o.length_is, o.stands.sized.least)

      pub one_piece : part s (at + 19 + head_size form) len ≡ body_bytes (body_at form s (length s) (full form) (at + 19))
      unfolding bytes
      one_piece = copy_part form s bytes [] 0 [] (at + 19) 0 0 (copy_start form s [] 0 (at + 19)) len some least ∙ take_all (full form) bytes (omega (arith, is_len))

      pub one_inside : at + 19 + head_size form + len ≤ length s
      unfolding bytes
      one_inside = omega (arith, copy_inside form s bytes [] 0 [] (at + 19) 0 0 (copy_start form s [] 0 (at + 19)) len some least)

  -- A message that was accepted with its datagram.
  pub record Accepted (len next : ℕ) : Type 0 where
    pub whole : Whole form s at len next
    pub packet : Packet
    pub reads : reading true whole.found.message.datagram ≡ given packet

  accepted_read : (len next : ℕ) (m : Found) (a : Answer Packet) → message_at form s at ≡ given m → reading true m.message.datagram ≡ a → onward a (λ p. given (extent_of m)) ≡ given (record { len = len; next = next }) → Accepted len next
  accepted_read len next m (given p) q r e =
      let k : extent_of m ≡ record { len = len; next = next } = same_given e in
      record {
        whole = record { found = m; is = q; length_is = ap (λ (x : Extent). x.len) k; next_is = ap (λ (x : Extent). x.next) k; stands = on_given (Message form s at) (message_at form s at) m (message_sound form s at) q };
        packet = p;
        reads = r;
      }
  accepted_read len next m (refused k) q r e = not_refused (sym e)

  accepted_by : (len next : ℕ) (a : Answer Found) → message_at form s at ≡ a → onward a (λ m. onward (reading true m.message.datagram) (λ p. given (extent_of m))) ≡ given (record { len = len; next = next }) → Accepted len next
  accepted_by len next (given m) q e = accepted_read len next m (reading true m.message.datagram) q refl e
  accepted_by len next (refused k) q e = not_refused (sym e)

  pub accepted : (len next : ℕ) → strict_at form s at ≡ given (record { len = len; next = next }) → Accepted len next
  unfolding strict_at
  accepted len next e = accepted_by len next (message_at form s at) refl e

  -- A message that was refused where it stands was refused for its datagram.
  datagram_by : (m : Found) (k : ℕ) (a : Answer Packet) → onward a (λ p. given (extent_of m)) ≡ refused k → a ≡ refused k
  datagram_by m k (given p) e = not_refused e
  datagram_by m k (refused j) e = ap refused (same_refused e)

  pub bad_datagram : (m : Found) (k : ℕ) → message_at form s at ≡ given m → strict_at form s at ≡ refused k → reading true m.message.datagram ≡ refused k
  unfolding strict_at
  bad_datagram m k q e = datagram_by m k (reading true m.message.datagram) (rw q at e)
