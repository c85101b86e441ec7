-- What the types say of every packet that a function is handed: a theorem over packets asks it, and `proofs/Held.antt` has it of
-- every packet at a function's entry.
use Rattle.std.specs.Prelude.{◌<◌, ◌≡◌, List, [], ◌∷◌, length}
use Rattle.class.specs.Class.{byte_of}
use Rattle.packet.specs.Limits.{max_options}
use Rattle.packet.specs.declared.Packet.{Packet}
use Rattle.packet.specs.declared.OptionRecord.{OptionRecord}

-- Each record's number is one of 16 bits.
abbrev pub Numbers : List OptionRecord → Type 0
Numbers [] = Unit {0}
Numbers (r ∷ rs) = (r.number < 65536) × Numbers rs

-- A code of 8 bits, an id of 16, and 128 records with their numbers.
pub record Shaped (p : Packet) : Type 0 where
  pub code : byte_of p.header.code < 256
  pub id : p.header.message_id < 65536
  pub array : length p.options ≡ max_options
  pub numbers : Numbers p.options
