-- Strict writing: any packet that means a well-formed message and isn't refused 10 or 11, with enough limit and room, is written
-- as the message's RFC 7252 layout; nothing else is written.
use Rattle.std.specs.Prelude.{ℕ, ◌≤◌, ◌≡◌, ◌↔◌, true, false, List, length, Result, Ok}
use Rattle.rfc.specs.Message.{Message, WellFormed, layout}
use Rattle.refusal.specs.declared.Refusal.{Refusal}
use Rattle.judging.specs.Judge.{lengths_of, is_too_long, bad_packet}
use Rattle.packet.specs.Packet.{Stores}
use Rattle.packet.specs.Meaning.{meaning}
use Rattle.packet.specs.Shape.{Shaped}
use Rattle.packet.specs.declared.Packet.{Packet}
use Rattle.measuring.specs.Measuring.{over}
use Rattle.measuring.specs.declared.Limit.{Limit}
use Rattle.writing.specs.Writing.{ToBytes, Held}
use Rattle.guarantees.specs.Wrote.{Wrote}

-- The packet isn't refused 10 or 11.
pub record Sound (s : Stores) (p : Packet) : Type 0 where
  pub short : is_too_long (lengths_of s) ≡ false
  pub records : bad_packet (lengths_of s) p ≡ false

-- Limit and room are enough for these bytes.
pub record Enough (limit : Limit) (room : ℕ) (bytes : List ℕ) : Type 0 where
  pub within : over limit (length bytes) ≡ false
  pub fits : length bytes ≤ room

pub record StrictWriting (limit : Limit) (p : Packet) (s : Stores) (old : List ℕ) (r : Result ℕ Refusal) (new : List ℕ) : Type 0 where
  -- A packet that means a well-formed message is written as its layout.
  pub writes : (m : Message) → WellFormed m → meaning s p ≡ m → Sound s p → Enough limit (length old) (layout m) → Wrote (layout m) old r new
  -- It is written exactly when its meaning is well-formed, nothing is refused 10 or 11, and limit and room suffice.
  pub exactly : ((n : ℕ) × (r ≡ Ok n)) ↔ (WellFormed (meaning s p) × Sound s p × Enough limit (length old) (layout (meaning s p)))

-- So it is of every packet that a function can be handed, of any two stores, of every limit and output, and of every answer that meets the
-- promise.
abbrev pub WritesStrictly : Type 0
WritesStrictly =
    (limit : Limit) (p : Packet) → Shaped p → (s : Stores) → Held s → (old : List ℕ) (r : Result ℕ Refusal) (new : List ℕ)
    → ToBytes true limit p s old r new → StrictWriting limit p s old r new
