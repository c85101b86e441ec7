-- What the two conversions answer, by the judgement that was made first.
use Prim.Native.Nat.{ℕ, ◌+◌, ◌-◌, ◌%◌, ◌<◌, ◌≤◌}
use mathlib.Core.Path.{◌≡◌, refl, sym, ap, subst, ◌∙◌}
use mathlib.Core.Bool.{true}
use mathlib.Core.List.{List, [], ◌++◌}
use native.Mathlib.Omega.{arith}
use lib.ListN.{length, take, drop, get_or, length-drop, length-append}
use lib.Seq.{take_all, drop-drop}
use native.Mathlib.Nat.{sub-zero}
use borrow.Author.Tests.{lt-ltb}
use Rattle.std.specs.Prelude.{Result, Ok, Err}
use Rattle.ground.specs.Part.{Bytes}
use Rattle.ground.proofs.Choice.{by_lt}
use Rattle.rfc.specs.Message.{Message, WellFormed, layout, header_layout}
use Rattle.rfc.specs.Frame.{body, frame_head, frame}
use Rattle.refusal.specs.Answer.{Answer, given, refused, onward, outcome}
use Rattle.refusal.specs.Number.{number_of}
use Rattle.refusal.specs.declared.Refusal.{Refusal}
use Rattle.refusal.proofs.Answers.{not_refused, on_given}
use Rattle.header.specs.Header.{raw_bytes, version_of, token_of}
use Rattle.header.specs.declared.MessageType.{MessageType}
use Rattle.header.proofs.Raw.{type_small}
use Rattle.packet.specs.Meaning.{meaning}
use Rattle.packet.specs.Packet.{stores}
use Rattle.packet.specs.declared.Packet.{Packet}
use Rattle.reading.specs.Reading.{reading}
use Rattle.reading.proofs.Accept as Accept
use Rattle.cursor.specs.Cursor.{accepting}
use Rattle.cursor.proofs.Accepting.{accepting_refused, accepting_given}
use Rattle.framing.specs.Head.{Within, Begins, head_in}
use Rattle.framing.specs.Judging.{judged}
use Rattle.framing.specs.Framing.{framed, strictly, header_for, datagram_of, unframed, Whole, frame_of, Converts}
use Rattle.framing.specs.declared.Head.{Head}
use Rattle.framing.specs.declared.HeadBytes.{HeadBytes}
use Rattle.framing.proofs.Judged.{strictly_judged, strictly_long}

-- A refused conversion.
pub not_converted : (a : Answer (List ℕ)) (old : List ℕ) (e : Refusal) → a ≡ refused (number_of e) → Converts a old (Err e) old
not_converted a old e is = record { answer = rw is; output = rw is }

-- Where the strict reader refuses, there is no frame.
pub framed_refused : (s : List ℕ) (k : ℕ) → accepting true s ≡ refused k → framed s ≡ refused k
unfolding framed
framed_refused s k e = rw (accepting_refused true s k e)

-- The frame of a well-formed message, by the bytes of its layout.
module _ (m : Message) (w : WellFormed m) where
  token_in : get_or (layout m) 0 0 % 16 ≡ length m.token
  unfolding layout header_layout
  token_in = omega (arith, w.type, w.token_length)

  long : length (layout m) ≡ 4 + (length m.token + length (body m))
  unfolding layout header_layout
  long = omega (arith, length-append m.token (body m))

  pub frame_is : frame m ≡ frame_of (layout m)
  unfolding frame frame_of layout header_layout
  frame_is =
      let rest : length (layout m) - 4 - length m.token ≡ length (body m) = omega (arith, long) in
      rw (token_in, rest) refl

  token_fits : 4 + get_or (layout m) 0 0 % 16 ≤ length (layout m)
  token_fits = omega (arith, token_in, long)

-- Where it accepts, the datagram is short and has its token, and its frame is made of its bytes.
module _ (s : List ℕ) (b : Bytes s) (e : accepting true s ≡ given tt) where
  read : (p : Packet) × (reading true s ≡ given p)
  read = accepting_given true s e

  laid : WellFormed (meaning (stores s []) read.0) × (layout (meaning (stores s []) read.0) ≡ s)
  laid = on_given _ (reading true s) read.0 (Accept.accepted s b) read.1 []

  short : length s ≤ 70000
  unfolding reading
  short = by_lt 70000 (length s) (λ h. let long : reading true s ≡ refused 10 = rw (lt-ltb 70000 (length s) h) in not_refused (sym read.1 ∙ long)) (λ h. h)

  pub accepted_whole : Whole s
  accepted_whole = record { token = subst (λ (l : List ℕ). 4 + get_or l 0 0 % 16 ≤ length l) laid.1 (token_fits (meaning (stores s []) read.0) laid.0); short = short }

  pub framed_is : framed s ≡ given (frame_of s)
  unfolding framed
  framed_is = rw read.1 (ap given (frame_is (meaning (stores s []) read.0) laid.0 ∙ ap frame_of laid.1))

-- What is left of a slice from a position.
pub all_left : (s : List ℕ) (at : ℕ) → take (length s - at) (drop at s) ≡ drop at s
all_left s at = take_all (length s - at) (drop at s) (rw length-drop (omega arith))

-- The head that was made, and all that follows the header.
pub frame_put : (s : List ℕ) (first : ℕ) → first ≡ get_or s 0 0 → (h : HeadBytes) → Begins (frame_head (length s - 4 - first % 16) (first % 16) (get_or s 1 0)) h
    → take (h.len - 0) h.bytes ++ take (length s - 4) (drop 4 s) ≡ frame_of s
unfolding frame_of
frame_put s first is h b = rw (sub-zero, b.is, all_left s 4, is)

-- A frame whose head was read, on the way back.
module _ (kind : MessageType) (id : ℕ) (f : List ℕ) (h : Head) (w : Within f h) where
  version : version_of (header_for kind id h) ≡ 1
  version = omega (arith, type_small kind, w.nibble)

  token : token_of (header_for kind id h) ≡ h.token_length
  token = omega (arith, type_small kind, w.nibble)

  rest : drop h.token_length (drop h.token_at f) ≡ drop (h.token_at + h.token_length) f
  rest = drop-drop h.token_length h.token_at f

  pub too_long : 70000 - 4 < length f - h.token_at → strictly (datagram_of kind id f h) ≡ refused 10
  too_long l = strictly_long (header_for kind id h) (drop h.token_at f) (rw length-drop (omega arith))

  pub judged_so : length f - h.token_at ≤ 70000 - 4
      → strictly (datagram_of kind id f h) ≡ onward (judged h.code h.token_length (drop (h.token_at + h.token_length) f)) (λ _. given (datagram_of kind id f h))
  judged_so l =
      let fits : 4 + length (drop h.token_at f) ≤ 70000 = rw length-drop (omega arith) in
      let inside : token_of (header_for kind id h) ≤ length (drop h.token_at f) = rw (length-drop, token) (omega (arith, w.token)) in
      strictly_judged (header_for kind id h) (drop h.token_at f) version fits inside ∙ rw (token, rest)

  -- What the judgement refuses, and what it lets pass.
  module _ (l : length f - h.token_at ≤ 70000 - 4) (o : Result (Unit {0}) Refusal) (j : outcome o ≡ judged h.code h.token_length (take (length f - (h.token_at + h.token_length)) (drop (h.token_at + h.token_length) f))) where
    told : judged h.code h.token_length (drop (h.token_at + h.token_length) f) ≡ outcome o
    told = rw (← all_left f (h.token_at + h.token_length)) (sym j)

    pub back_refused : (old : List ℕ) (e : Refusal) → o ≡ Err e → Converts (strictly (datagram_of kind id f h)) old (Err e) old
    back_refused old e is =
        not_converted (strictly (datagram_of kind id f h)) old e
        (judged_so l ∙ ap (λ (a : Answer (Unit {0})). onward a (λ _. given (datagram_of kind id f h))) (told ∙ ap outcome is))

    pub back_given : (u : Unit {0}) → o ≡ Ok u → strictly (datagram_of kind id f h) ≡ given (raw_bytes (header_for kind id h) ++ take (length f - h.token_at) (drop h.token_at f))
    back_given u is =
        judged_so l
        ∙ (ap (λ (a : Answer (Unit {0})). onward a (λ _. given (datagram_of kind id f h))) (told ∙ ap outcome is)
        ∙ ap (λ (r : List ℕ). given (raw_bytes (header_for kind id h) ++ r)) (sym (all_left f h.token_at)))

-- The head decides, or leaves the answer to what follows it.
module _ (kind : MessageType) (id : ℕ) (f : List ℕ) where
  pub head_refused : (k : ℕ) → head_in f ≡ refused k → unframed kind id f ≡ refused k
  unfolding unframed
  head_refused k e = rw e

  pub head_given : (h : Head) → head_in f ≡ given h → unframed kind id f ≡ strictly (datagram_of kind id f h)
  unfolding unframed
  head_given h e = rw e
