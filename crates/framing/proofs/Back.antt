-- What comes back of a frame: the frame of a message as its layout, and a datagram that has that frame.
use Prim.Native.Nat.{ℕ, ◌+◌, ◌-◌, ◌*◌, ◌%◌, ◌<◌, ◌≤◌}
use mathlib.Core.Path.{◌≡◌, sym, ap, subst, ◌∙◌}
use mathlib.Core.Bool.{true}
use mathlib.Core.List.{List, ◌++◌}
use native.Mathlib.Omega.{arith}
use lib.ListN.{length, drop, length-append, length-drop, take-append-drop}
use lib.Seq.{drop-append_seam}
use Rattle.ground.specs.Part.{Bytes}
use Rattle.ground.proofs.Choice.{on_eq}
use Rattle.ground.proofs.Part.{byte_at, bytes_append, bytes_drop}
use Rattle.rfc.specs.Message.{Message, WellFormed, layout, header_layout}
use Rattle.rfc.specs.Frame.{body, frame_head, frame}
use Rattle.refusal.specs.Answer.{given}
use Rattle.refusal.proofs.Answers.{Given, on_given, onward_given, same_given}
use Rattle.header.specs.Header.{number_of_type, raw_bytes}
use Rattle.header.specs.declared.MessageType.{MessageType}
use Rattle.header.proofs.Raw.{type_small, raw_bytes_lem}
use Rattle.packet.specs.declared.Packet.{Packet}
use Rattle.reading.specs.Reading.{reading}
use Rattle.framing.specs.Head.{head_of, head_in}
use Rattle.framing.specs.Framing.{strictly, header_for, datagram_of, unframed, frame_of}
use Rattle.framing.specs.declared.Head.{Head}
use Rattle.framing.proofs.Heads.{head_for, head_back, Stands, stands}
use Rattle.framing.proofs.Converting.{head_given}

-- The frame of a message, with its own type and id, comes back as strict reading has its layout.
module _ (kind : MessageType) (m : Message) (w : WellFormed m) (type : number_of_type kind ≡ m.type) where
  datagram_is : datagram_of kind m.id (frame m) (head_for (length (body m)) (length m.token) m.code) ≡ layout m
  unfolding frame layout header_layout
  datagram_is = rw (drop-append_seam (frame_head (length (body m)) (length m.token) m.code) (m.token ++ body m), w.version, type)

  head_is : head_in (frame m) ≡ given (head_for (length (body m)) (length m.token) m.code)
  unfolding frame
  head_is = head_back (length (body m)) (length m.token) m.code (omega (arith, w.token_length)) (m.token ++ body m) (length-append m.token (body m))

  pub unframed_frame : unframed kind m.id (frame m) ≡ strictly (layout m)
  unframed_frame = head_given kind m.id (frame m) _ head_is ∙ ap strictly datagram_is

-- The code that was read is a byte.
code_small : (f : List ℕ) → Bytes f → Given (λ (h : Head). h.code < 256) (head_in f)
unfolding head_of
code_small f b = on_eq (Given (λ (h : Head). h.code < 256)) (length f) _ (λ e. byte_at f _ b) (λ e. tt)

-- The datagram of a frame has that frame.
frame_back : (kind : MessageType) (id : ℕ) (f : List ℕ) (h : Head) → Stands f h → frame_of (datagram_of kind id f h) ≡ f
unfolding frame_of
frame_back kind id f h st =
    let token : (64 + number_of_type kind * 16 + h.token_length) % 16 ≡ h.token_length = omega (arith, st.within.nibble) in
    let rest : length (datagram_of kind id f h) - 4 - h.token_length ≡ length f - h.token_at - h.token_length = omega (arith, length-drop h.token_at f) in
    rw (token, rest, st.bytes) (take-append-drop h.token_at f)

-- A datagram that came back: bytes that strict reading accepts, and whose frame is the one that was given.
pub record CameBack (f d : List ℕ) : Type 0 where
  pub bytes : Bytes d
  pub packet : Packet
  pub read : reading true d ≡ given packet
  pub frame_is : frame_of d ≡ f

module _ (kind : MessageType) (id : ℕ) (small : id ≤ 65535) (f : List ℕ) (b : Bytes f) where
  datagram_bytes : (h : Head) → head_in f ≡ given h → Bytes (datagram_of kind id f h)
  datagram_bytes h e =
      let st = on_given (Stands f) (head_in f) h (stands f b) e in
      let code = on_given (λ (x : Head). x.code < 256) (head_in f) h (code_small f b) e in
      bytes_append (raw_bytes (header_for kind id h)) (drop h.token_at f)
      (raw_bytes_lem (header_for kind id h) (omega (arith, type_small kind, st.within.nibble)) code small)
      (bytes_drop h.token_at f b)

  pub came_back : (d : List ℕ) → unframed kind id f ≡ given d → CameBack f d
  unfolding unframed strictly
  came_back d e =
      let o = onward_given (head_in f) (λ h. strictly (datagram_of kind id f h)) d e in
      let h = o.0 in
      let s = datagram_of kind id f h in
      let q = onward_given (reading true s) (λ p. given s) d o.2 in
      let same : s ≡ d = same_given q.2 in
      record {
        bytes = subst Bytes same (datagram_bytes h o.1);
        packet = q.0;
        read = subst (λ (l : List ℕ). reading true l ≡ given q.0) same q.1;
        frame_is = ap frame_of (sym same) ∙ frame_back kind id f h (on_given (Stands f) (head_in f) h (stands f b) o.1);
      }
