-- What the types tell a function of a packet that it is handed.
use mathlib.Core.Path.{◌≡◌}
use mathlib.Core.List.{List, [], ◌∷◌}
use lib.ListN.{length}
use mir.Val.{Val}
use denote.Array.{each}
use denote.Laws.{Is}
use denote.Shadow.{shadow}
use denote.Struct.Declared as Declared
use denote.Struct.Laws as Struct
use Rattle.class.specs.contracts.MessageClass as Class
use Rattle.class.proofs.Class.{Held, byte_small}
use Rattle.class.specs.declared.MessageClass.{MessageClass}
use Rattle.class.specs.declared.MessageClass.TheVariants.{Empty, Request, Response, Reserved}
use Rattle.packet.specs.contracts.OptionRecord as Record
use Rattle.packet.specs.contracts.Packet as Row
use Rattle.packet.proofs.Packet.TheLaws as Laws
use Rattle.packet.specs.declared.OptionRecord.{OptionRecord}
use Rattle.packet.specs.declared.Packet.{Packet}
use Rattle.packet.specs.Limits.{max_options}
use Rattle.packet.specs.Shape.{Numbers, Shaped}

-- The packet is one that memory of its type can hold: the fact `good` at a function's entry.
abbrev pub Handed : Packet → Type 0
Handed p = Is (Declared.row Row.the_type) p (Struct.val Row.the_type Laws.the_laws p ∷ [])

pub full : (p : Packet) → Handed p → length p.options ≡ max_options
full p h = h.1.1.1.1.1.0.1.0.1

numbers : (rs : List OptionRecord) (vs : List Val) → shadow (each (Record.the_row).Denot (Record.the_row).own_val rs vs) → Numbers rs
numbers [] vs h = tt
numbers (r ∷ rs) [] h = absurd h
numbers (r ∷ rs) (v ∷ vs) h = (h.0.1.1.0.1, numbers rs vs h.1)

code : (c : MessageClass) (vs : List Val) → shadow ((Class.the_field).row.own_val ((Class.the_field).into c) vs) → Held c
code Empty vs h = tt
code (Request r) vs h = tt
code (Response r) vs h = tt
code (Reserved b) vs h = h.1.1.1.1.0.1

pub shaped : (p : Packet) → Handed p → Shaped p
shaped p h =
    record {
      code = byte_small p.header.code (code p.header.code _ h.1.1.0.1.1.1.1.0);
      id = h.1.1.0.1.1.1.1.1.0.1;
      array = full p h;
      numbers = numbers p.options _ h.1.1.1.1.1.0.1.1;
    }
