-- Frames over TCP: a datagram goes out as the frame of its message, and a frame comes back as the layout of its message, with the
-- type and the id that are named. There and back is the same bytes, either way.
use Rattle.std.specs.Prelude.{ℕ, ◌≤◌, ◌≡◌, ◌↔◌, List, length, take, Result, Ok, Err}
use Rattle.rfc.specs.Message.{Message, WellFormed, layout}
use Rattle.rfc.specs.Frame.{frame}
use Rattle.ground.specs.Part.{Bytes}
use Rattle.refusal.specs.Answer.{Answer}
use Rattle.refusal.specs.declared.Refusal.{Refusal}
use Rattle.header.specs.Header.{number_of_type}
use Rattle.header.specs.declared.MessageType.{MessageType}
use Rattle.packet.specs.Limits.{max_store}
use Rattle.framing.specs.Framing.{Converts, ToFrame, FromFrame}
use Rattle.guarantees.specs.StrictReading.{IsLayoutOf}
use Rattle.guarantees.specs.Wrote.{Wrote}

-- A well-formed message whose layout has at most 70,000 bytes, and whose frame these bytes are.
pub record IsFrameOf (f : List ℕ) (m : Message) : Type 0 where
  pub well_formed : WellFormed m
  pub short : length (layout m) ≤ max_store
  pub bytes : frame m ≡ f

-- A message with another type and another id.
abbrev pub renamed : MessageType → ℕ → Message → Message
renamed kind id m =
    record {
      version = m.version;
      type = number_of_type kind;
      code = m.code;
      id = id;
      token = m.token;
      options = m.options;
      payload = m.payload;
    }

pub record GoesOut (s old : List ℕ) (r : Result ℕ Refusal) (new : List ℕ) : Type 0 where
  -- The layout of a well-formed message is written as that message's frame.
  pub writes : (m : Message) → IsLayoutOf s m → length s ≤ max_store → length (frame m) ≤ length old → Wrote (frame m) old r new
  -- Something is written exactly when there is such a message, and room for its frame.
  pub exactly : ((n : ℕ) × (r ≡ Ok n)) ↔ ((m : Message) × IsLayoutOf s m × (length s ≤ max_store) × (length (frame m) ≤ length old))

pub record ComesBack (kind : MessageType) (id : ℕ) (f old : List ℕ) (r : Result ℕ Refusal) (new : List ℕ) : Type 0 where
  -- The frame of a well-formed message is written as that message's layout, with the type and the id that are named.
  pub writes : (m : Message) → IsFrameOf f m → length (layout m) ≤ length old → Wrote (layout (renamed kind id m)) old r new
  -- Something is written exactly when there is such a message, and room for its layout.
  pub exactly : ((n : ℕ) × (r ≡ Ok n)) ↔ ((m : Message) × IsFrameOf f m × (length (layout m) ≤ length old))

-- A frame has one message, up to type and id.
abbrev pub OneMessage : Type 0
OneMessage = (f : List ℕ) (m n : Message) → IsFrameOf f m → IsFrameOf f n → (kind : MessageType) (id : ℕ) → renamed kind id m ≡ renamed kind id n

-- So it is of every datagram, frame, type, id and output, and of every answer that meets the promise.
abbrev pub Out : Type 0
Out = (s : List ℕ) → Bytes s → (old : List ℕ) (r : Result ℕ Refusal) (new : List ℕ) → ToFrame s old r new → GoesOut s old r new

abbrev pub Back : Type 0
Back =
    (kind : MessageType) (id : ℕ) → id ≤ 65535 → (f : List ℕ) → Bytes f → (old : List ℕ) (r : Result ℕ Refusal) (new : List ℕ)
    → FromFrame kind id f old r new → ComesBack kind id f old r new

-- Out, then back: with the message's own type and id, and room, what was written comes back as the datagram, byte for byte.
abbrev pub OutThenBack : Type 0
OutThenBack =
    (s : List ℕ) → Bytes s → (old : List ℕ) (r : Result ℕ Refusal) (new : List ℕ) (n : ℕ) → ToFrame s old r new → r ≡ Ok n
    → (m : Message) → IsLayoutOf s m → (kind : MessageType) → number_of_type kind ≡ m.type
    → (old₂ : List ℕ) (r₂ : Result ℕ Refusal) (new₂ : List ℕ) → length s ≤ length old₂ → FromFrame kind m.id (take n new) old₂ r₂ new₂
    → Wrote s old₂ r₂ new₂

-- Back, then out: with room, what was written goes out as the frame, byte for byte.
abbrev pub BackThenOut : Type 0
BackThenOut =
    (kind : MessageType) (id : ℕ) → id ≤ 65535 → (f : List ℕ) → Bytes f → (old : List ℕ) (r : Result ℕ Refusal) (new : List ℕ) (n : ℕ)
    → FromFrame kind id f old r new → r ≡ Ok n
    → (old₂ : List ℕ) (r₂ : Result ℕ Refusal) (new₂ : List ℕ) → length f ≤ length old₂ → ToFrame (take n new) old₂ r₂ new₂
    → Wrote f old₂ r₂ new₂

-- A refused conversion, to a frame or back from one, leaves the output as it was; so does one of a stream to its other form.
abbrev pub FrameOutputKept : Type 0
FrameOutputKept = (a : Answer (List ℕ)) (old : List ℕ) (r : Result ℕ Refusal) (new : List ℕ) → Converts a old r new → (e : Refusal) → r ≡ Err e → new ≡ old

-- A conversion to a frame, or back from one, has one answer and leaves one output; so has one of a stream.
abbrev pub OneConversion : Type 0
OneConversion =
    (a : Answer (List ℕ)) (old : List ℕ) (r q : Result ℕ Refusal) (new also : List ℕ) → Converts a old r new → Converts a old q also
    → (r ≡ q) × (new ≡ also)
