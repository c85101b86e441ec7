-- What a packet keeps to that comes back whole from its flat form, as every packet that is read does.
use Rattle.std.specs.Prelude.{◌-◌, ◌<◌, ◌≤◌, ◌≡◌, List, [], ◌∷◌, drop, replicate}
use Rattle.class.specs.Class.{byte_of, class_of}
use Rattle.packet.specs.Limits.{max_options}
use Rattle.packet.specs.Packet.{none, records_of}
use Rattle.packet.specs.declared.Packet.{Packet}
use Rattle.packet.specs.declared.OptionRecord.{OptionRecord}

-- Each record's spare field is 0.
abbrev pub Spared : List OptionRecord → Type 0
Spared [] = Unit {0}
Spared (r ∷ rs) = (r.spare ≡ 0) × Spared rs

-- A version of 8 bits, a class that its byte names, at most 128 records, whose spare field is 0, and the empty record past them.
pub record Made (p : Packet) : Type 0 where
  pub version : p.header.version < 256
  pub class : class_of (byte_of p.header.code) ≡ p.header.code
  pub count : p.count ≤ max_options
  pub spare : Spared (records_of p)
  pub rest : drop p.count p.options ≡ replicate (max_options - p.count) none
