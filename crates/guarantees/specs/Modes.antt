-- When plain and strict disagree: seven statements on the two readers' answers to one datagram. They hold of every datagram; over
-- 70,000 bytes both modes refuse.
use Rattle.std.specs.Prelude.{ℕ, ◌<◌, ◌≡◌, ◌⊎◌, ◌↔◌, Bool, true, false, List, [], ◌∷◌, ◌++◌, T, length, Result, Ok, Err}
use Rattle.ground.specs.Part.{Bytes, Among}
use Rattle.ground.specs.Table.{listed}
use Rattle.rfc.specs.Message.{Opt, Message, layout}
use Rattle.refusal.specs.Number.{number_of}
use Rattle.refusal.specs.declared.Refusal.{Refusal}
use Rattle.packet.specs.Limits.{max_plain_value}
use Rattle.packet.specs.Packet.{stores, new_packet}
use Rattle.packet.specs.Meaning.{meaning}
use Rattle.packet.specs.declared.Packet.{Packet}
use Rattle.reading.specs.Reading.{decoded, FromBytes}
use Rattle.guarantees.specs.Refusals.{DoneOr}

-- A reader accepts the datagram.
abbrev pub Accepts : Result Packet Refusal → Type 0
Accepts d = (p : Packet) × (d ≡ Ok p)

-- It refuses it.
abbrev pub Refuses : Result Packet Refusal → Type 0
Refuses d = (e : Refusal) × (d ≡ Err e)

-- It refuses it, with one of these numbers.
abbrev pub RefusesWith : List ℕ → Result Packet Refusal → Type 0
RefusesWith numbers d = (e : Refusal) × (d ≡ Err e) × T (listed (number_of e) numbers)

-- The message that a reader's packet means, beside an edit store.
abbrev pub said : List ℕ → List ℕ → Result Packet Refusal → Message
said s edits d = meaning (stores s edits) (decoded d).value

-- The option's value is longer than 65535 bytes.
abbrev pub Long : Opt → Type 0
Long o = max_plain_value < length o.value

-- Some value of the message is.
abbrev pub HasLong : Message → Type 0
HasLong m = (o : Opt) × Among o m.options × Long o

-- The version isn't 1.
abbrev pub OtherVersion : Message → Type 0
OtherVersion m = m.version ≡ 1 → ⊥

-- Code byte 0 carries something: a token, an option, a marker or a payload; so anything after the four bytes of the header.
abbrev pub Carries : List ℕ → Message → Type 0
Carries s m = (m.code ≡ 0) × (4 < length s)

-- A bare marker ends the datagram: it is the layout of the message, and one FF more.
abbrev pub BareMarker : List ℕ → Message → Type 0
BareMarker s m = s ≡ layout m ++ (0xFF ∷ [])

-- What plain takes and strict doesn't: one of the three.
abbrev pub Cause : List ℕ → Message → Type 0
Cause s m = OtherVersion m ⊎ (Carries s m ⊎ BareMarker s m)

pub record Modes (s edits : List ℕ) (plain strict : Result Packet Refusal) : Type 0 where
  -- If both accept, the meanings are equal.
  pub both : Accepts plain → Accepts strict → said s edits plain ≡ said s edits strict
  -- If strict alone accepts, some value is longer than 65535 bytes.
  pub strict_alone : Accepts strict → Refuses plain → HasLong (said s edits strict)
  -- Every such value makes plain refuse, with 4.
  pub long_value : Accepts strict → (o : Opt) → Among o (said s edits strict).options → Long o → RefusesWith (4 ∷ []) plain
  -- If plain alone accepts, the version isn't 1, or code byte 0 carries something, or a bare marker ends the datagram.
  pub plain_alone : Accepts plain → Refuses strict → Cause s (said s edits plain)
  -- Another version makes strict refuse, with 7.
  pub other_version : Accepts plain → OtherVersion (said s edits plain) → RefusesWith (7 ∷ []) strict
  -- Code byte 0 that carries something makes strict refuse, with 7 or 8.
  pub carries : Accepts plain → Carries s (said s edits plain) → RefusesWith (7 ∷ 8 ∷ []) strict
  -- A bare marker makes strict refuse, with 7, 8 or 9.
  pub bare_marker : Accepts plain → BareMarker s (said s edits plain) → RefusesWith (7 ∷ 8 ∷ 9 ∷ []) strict

-- What follows.
pub record Exactly (s edits : List ℕ) (plain strict : Result Packet Refusal) : Type 0 where
  -- Where plain accepts, strict accepts exactly when none of the three causes holds.
  pub strict_too : Accepts plain → (Accepts strict ↔ (Cause s (said s edits plain) → ⊥))
  -- Where strict accepts, plain accepts exactly when no value is longer than 65535 bytes.
  pub plain_too : Accepts strict → (Accepts plain ↔ (HasLong (said s edits strict) → ⊥))
  -- Where plain accepts, the datagram is the layout of the message, or a bare marker ends it.
  pub ends : Accepts plain → (s ≡ layout (said s edits plain)) ⊎ BareMarker s (said s edits plain)

-- So it is of every datagram, beside any edit store, and of every pair of answers that meet the two readers' promises.
abbrev pub TwoModes : Type 0
TwoModes =
    (s edits : List ℕ) → Bytes s → (plain strict : Result Packet Refusal) → FromBytes false s plain → FromBytes true s strict
    → Modes s edits plain strict × Exactly s edits plain strict

-- Where both refuse, the numbers needn't be equal: of `0F 00 00 01`, a token of 15 bytes in version 0, plain says 2 and strict 7.
abbrev pub RefusedApart : Type 0
RefusedApart =
    let s : List ℕ = 0x0F ∷ 0x00 ∷ 0x00 ∷ 0x01 ∷ [] in
    (plain strict : Result Packet Refusal) → FromBytes false s plain → FromBytes true s strict → RefusesWith (2 ∷ []) plain × RefusesWith (7 ∷ []) strict

-- Beside a refused reading stands the new packet.
abbrev pub NoPacketRead : Type 0
NoPacketRead = (strict : Bool) (s : List ℕ) (d : Result Packet Refusal) → FromBytes strict s d → DoneOr d (decoded d) new_packet
