-- Frames: what goes out, what comes back, and that each undoes the other.
use Prim.Native.Nat.{ℕ, ◌≤◌}
use mathlib.Core.Path.{◌≡◌, refl, sym, ap, ◌∙◌}
use mathlib.Core.Bool.{true}
use mathlib.Core.List.{List, []}
use native.Mathlib.Omega.{arith}
use lib.ListN.{length, take}
use borrow.Author.Tests.{le-ltb}
use Rattle.std.specs.Prelude.{Result, Ok}
use Rattle.ground.specs.Part.{Bytes}
use Rattle.ground.proofs.Choice.{on_lt}
use Rattle.rfc.specs.Message.{Message, WellFormed, layout, header_layout}
use Rattle.rfc.specs.Frame.{frame}
use Rattle.refusal.specs.Answer.{Answer, given, onward, written, fitted, after}
use Rattle.refusal.proofs.Answers.{on_given, onward_given, not_refused, same_given}
use Rattle.refusal.proofs.Distinct.{one_written}
use Rattle.refusal.proofs.Fitted.{fitted_output}
use Rattle.refusal.specs.declared.Refusal.{Refusal}
use Rattle.header.specs.Header.{number_of_type}
use Rattle.header.specs.declared.MessageType.{MessageType}
use Rattle.header.proofs.Raw.{type_small}
use Rattle.packet.specs.Packet.{stores}
use Rattle.packet.specs.Meaning.{meaning}
use Rattle.packet.specs.declared.Packet.{Packet}
use Rattle.reading.specs.Reading.{reading}
use Rattle.reading.proofs.Accept.{accepted}
use Rattle.reading.proofs.Complete.{reads_layout}
use Rattle.framing.specs.Framing.{framed, strictly, unframed, frame_of, bytes_of, Converts}
use Rattle.framing.proofs.Converting.{frame_is}
use Rattle.framing.proofs.Back.{unframed_frame, came_back}
use Rattle.guarantees.specs.StrictReading.{IsLayoutOf}
use Rattle.guarantees.specs.Wrote.{Wrote}
use Rattle.transfer_guarantees.specs.Frames.{IsFrameOf, renamed, OneMessage, Out, Back, OutThenBack, BackThenOut, FrameOutputKept, OneConversion}
use Rattle.reading.proofs.Taken.{Taken, taken}
use Rattle.guarantees.proofs.RoundTrips.{front}
use Rattle.guarantees.proofs.Refusals.{output_kept, same_ok}

-- What a conversion wrote, and that it wrote something.
module _ (a : Answer (List ℕ)) (old : List ℕ) (r : Result ℕ Refusal) (new : List ℕ) (promise : Converts a old r new) where
  pub wrote : (bytes : List ℕ) → a ≡ given bytes → length bytes ≤ length old → Wrote bytes old r new
  wrote bytes is fits =
      let fit : fitted (length old) bytes ≡ given (length bytes) = rw (le-ltb (length old) (length bytes) fits) in
      let all : onward a (fitted (length old)) ≡ given (length bytes) = ap (λ (x : Answer (List ℕ)). onward x (fitted (length old))) is ∙ fit in
      record {
        answer = one_written r (Ok (length bytes)) (promise.answer ∙ all);
        output = promise.output ∙ (ap (λ (x : Answer (List ℕ)). after (onward x (fitted (length old))) 0 (bytes_of x) old) is ∙ fitted_output old bytes (length bytes) fit);
      }

  pub record Converted (n : ℕ) : Type 0 where
    pub bytes : List ℕ
    pub is : a ≡ given bytes
    pub fits : length bytes ≤ length old

  fits_in : (bytes : List ℕ) (n : ℕ) → fitted (length old) bytes ≡ given n → length bytes ≤ length old
  fits_in bytes n = on_lt (λ (x : Answer ℕ). x ≡ given n → length bytes ≤ length old) (length old) (length bytes) (λ h e. not_refused (sym e)) (λ h e. h)

  pub converted : (n : ℕ) → r ≡ Ok n → Converted n
  converted n e =
      let o = onward_given a (fitted (length old)) n (sym promise.answer ∙ ap written e) in
      record { bytes = o.0; is = o.1; fits = fits_in o.0 n o.2 }

  -- What stands in the output.
  pub stood : (n : ℕ) → r ≡ Ok n → (bytes : List ℕ) → a ≡ given bytes → length bytes ≤ length old → take n new ≡ bytes
  stood n e bytes is fits =
      let w = wrote bytes is fits in
      let same : n ≡ length bytes = same_ok (sym e ∙ w.answer) in
      ap (λ (i : ℕ). take i new) same ∙ front bytes old new w.output

-- Out: the frame of a message whose layout was read, and the other way round.
module _ (m : Message) (w : WellFormed m) (short : length (layout m) ≤ 70000) where
  framed_layout : framed (layout m) ≡ given (frame m)
  unfolding framed
  framed_layout = let r = reads_layout m w short in rw r.is (ap (λ (x : Message). given (frame x)) (r.means []))

  strictly_layout : strictly (layout m) ≡ given (layout m)
  unfolding strictly
  strictly_layout = let r = reads_layout m w short in rw r.is refl

-- A datagram that strict reading accepts is short, and the layout of a message.
record Holds (s : List ℕ) (p : Packet) : Type 0 where
  message : IsLayoutOf s (meaning (stores s []) p)
  short : length s ≤ 70000

holds : (s : List ℕ) → Bytes s → (p : Packet) → reading true s ≡ given p → Holds s p
holds s b p e =
    let a = on_given (λ (q : Packet). (edits : List ℕ) → WellFormed (meaning (stores s edits) q) × (layout (meaning (stores s edits) q) ≡ s)) (reading true s) p (accepted s b) e [] in
    record { message = record { well_formed = a.0; bytes = a.1 }; short = (on_given (Taken true s) (reading true s) p (taken true s b) e).fits }

record FramedFrom (s f : List ℕ) : Type 0 where
  message : Message
  is : IsLayoutOf s message
  short : length s ≤ 70000
  frame_is : frame message ≡ f

framed_from : (s : List ℕ) → Bytes s → (f : List ℕ) → framed s ≡ given f → FramedFrom s f
unfolding framed
framed_from s b f e =
    let o = onward_given (reading true s) (λ p. given (frame (meaning (stores s []) p))) f e in
    let h = holds s b o.0 o.1 in
    record { message = meaning (stores s []) o.0; is = h.message; short = h.short; frame_is = same_given o.2 }

of_layout : (s : List ℕ) (m : Message) → IsLayoutOf s m → length s ≤ 70000 → framed s ≡ given (frame m)
of_layout s m l short = ap framed (sym l.bytes) ∙ framed_layout m l.well_formed (omega (arith, ap length l.bytes))

pub out : Out
out s b old r new promise =
    let writes : (m : Message) → IsLayoutOf s m → length s ≤ 70000 → length (frame m) ≤ length old → Wrote (frame m) old r new =
    λ m l short fits. wrote (framed s) old r new promise (frame m) (of_layout s m l short) fits in
    record {
      writes = writes;
      exactly = (
        λ h.
            let c = converted (framed s) old r new promise h.0 h.1 in
            let o = framed_from s b c.bytes c.is in
            (o.message, o.is, o.short, rw o.frame_is c.fits),
        λ h. (length (frame h.0), (writes h.0 h.1 h.2 h.3).answer),
      );
    }

-- Back: a message with another type and id is well-formed too, is as long and has the same frame.
module _ (kind : MessageType) (id : ℕ) (small : id ≤ 65535) (m : Message) (w : WellFormed m) where
  renamed_well : WellFormed (renamed kind id m)
  renamed_well =
      record {
        version = w.version;
        type = omega (arith, type_small kind);
        code = w.code;
        id = small;
        token_length = w.token_length;
        token = w.token;
        count = w.count;
        rising = w.rising;
        options = w.options;
        payload = w.payload;
        empty = λ z. let e = w.empty z in record { token = e.token; options = e.options; payload = e.payload };
      }

  renamed_long : length (layout (renamed kind id m)) ≡ length (layout m)
  unfolding layout header_layout
  renamed_long = refl

  same_frame : frame (renamed kind id m) ≡ frame m
  unfolding frame
  same_frame = refl

  comes_back : length (layout m) ≤ 70000 → unframed kind id (frame m) ≡ given (layout (renamed kind id m))
  comes_back short =
      ap (unframed kind id) (sym same_frame)
      ∙ (unframed_frame kind (renamed kind id m) renamed_well refl ∙ strictly_layout (renamed kind id m) renamed_well (omega (arith, renamed_long)))

record UnframedFrom (f d : List ℕ) : Type 0 where
  message : Message
  is : IsFrameOf f message
  layout_is : layout message ≡ d

module _ (kind : MessageType) (id : ℕ) (small : id ≤ 65535) (f : List ℕ) (b : Bytes f) where
  unframed_from : (d : List ℕ) → unframed kind id f ≡ given d → UnframedFrom f d
  unframed_from d e =
      let c = came_back kind id small f b d e in
      let k = holds d c.bytes c.packet c.read in
      let m = meaning (stores d []) c.packet in
      record {
        message = m;
        is = record {
          well_formed = k.message.well_formed;
          short = rw k.message.bytes k.short;
          bytes = frame_is m k.message.well_formed ∙ (ap frame_of k.message.bytes ∙ c.frame_is);
        };
        layout_is = k.message.bytes;
      }

  of_frame : (m : Message) → IsFrameOf f m → unframed kind id f ≡ given (layout (renamed kind id m))
  of_frame m l = ap (unframed kind id) (sym l.bytes) ∙ comes_back kind id small m l.well_formed l.short

pub back : Back
back kind id small f b old r new promise =
    let writes : (m : Message) → IsFrameOf f m → length (layout m) ≤ length old → Wrote (layout (renamed kind id m)) old r new =
    λ m l fits. wrote (unframed kind id f) old r new promise (layout (renamed kind id m)) (of_frame kind id small f b m l) (omega (arith, renamed_long kind id small m l.well_formed)) in
    record {
      writes = writes;
      exactly = (
        λ h.
            let c = converted (unframed kind id f) old r new promise h.0 h.1 in
            let o = unframed_from kind id small f b c.bytes c.is in
            (o.message, o.is, rw o.layout_is c.fits),
        λ h. (length (layout (renamed kind id h.0)), (writes h.0 h.1 h.2).answer),
      );
    }

-- Two messages of one layout are one.
one_layout : (m n : Message) → WellFormed m → WellFormed n → length (layout m) ≤ 70000 → layout m ≡ layout n → m ≡ n
one_layout m n v w short e =
    let a = reads_layout m v short in
    let b = reads_layout n w (omega (arith, ap length e)) in
    let same : a.packet ≡ b.packet = same_given (sym a.is ∙ (ap (reading true) e ∙ b.is)) in
    sym (a.means []) ∙ ((λ i. meaning (stores (e i) []) (same i)) ∙ b.means [])

pub one_message : OneMessage
one_message f m n l k kind id =
    let a = comes_back kind 0 (omega arith) m l.well_formed l.short in
    let b = comes_back kind 0 (omega arith) n k.well_formed k.short in
    let same : layout (renamed kind 0 m) ≡ layout (renamed kind 0 n) = same_given (sym a ∙ (ap (unframed kind 0) (l.bytes ∙ sym k.bytes) ∙ b)) in
    ap (renamed kind id)
    (one_layout (renamed kind 0 m) (renamed kind 0 n) (renamed_well kind 0 (omega arith) m l.well_formed) (renamed_well kind 0 (omega arith) n k.well_formed)
    (omega (arith, renamed_long kind 0 (omega arith) m l.well_formed, l.short)) same)

-- With its own type and id a message is itself.
renamed_self : (kind : MessageType) (m : Message) → number_of_type kind ≡ m.type → renamed kind m.id m ≡ m
renamed_self kind m e =
    λ i.
    record { version = m.version; type = e i; code = m.code; id = m.id; token = m.token; options = m.options; payload = m.payload }

pub out_then_back : OutThenBack
out_then_back s b old r new n promise e m l kind same old₂ r₂ new₂ fits again =
    let c = converted (framed s) old r new promise n e in
    let o = framed_from s b c.bytes c.is in
    let is : framed s ≡ given (frame m) = of_layout s m l o.short in
    let bytes : c.bytes ≡ frame m = same_given (sym c.is ∙ is) in
    let stands-there : take n new ≡ frame m = stood (framed s) old r new promise n e (frame m) is (rw (← bytes) c.fits) in
    let gives : unframed kind m.id (take n new) ≡ given s =
    ap (unframed kind m.id) stands-there
    ∙ (comes_back kind m.id l.well_formed.id m l.well_formed (omega (arith, ap length l.bytes, o.short))
    ∙ ap given (ap layout (renamed_self kind m same) ∙ l.bytes)) in
    wrote (unframed kind m.id (take n new)) old₂ r₂ new₂ again s gives fits

pub back_then_out : BackThenOut
back_then_out kind id small f b old r new n promise e old₂ r₂ new₂ fits again =
    let c = converted (unframed kind id f) old r new promise n e in
    let o = unframed_from kind id small f b c.bytes c.is in
    let stands-there : take n new ≡ layout o.message = stood (unframed kind id f) old r new promise n e c.bytes c.is c.fits ∙ sym o.layout_is in
    let gives : framed (take n new) ≡ given f =
    ap framed stands-there ∙ (framed_layout o.message o.is.well_formed o.is.short ∙ ap given o.is.bytes) in
    wrote (framed (take n new)) old₂ r₂ new₂ again f gives fits

pub frame_output_kept : FrameOutputKept
frame_output_kept a old r new q e is = output_kept (onward a (fitted (length old))) 0 (bytes_of a) old r new q.answer q.output e is

pub one_conversion : OneConversion
one_conversion a old r q new also x y = (one_written r q (x.answer ∙ sym y.answer), x.output ∙ sym y.output)
