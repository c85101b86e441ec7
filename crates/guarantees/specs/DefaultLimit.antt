-- The default limit of a message is the given limit of 1,152 bytes: RFC 7252, section 4.6.
use Rattle.std.specs.Prelude.{ℕ, ◌↔◌, Bool, List, Result}
use Rattle.refusal.specs.declared.Refusal.{Refusal}
use Rattle.packet.specs.Packet.{Stores}
use Rattle.packet.specs.declared.Packet.{Packet}
use Rattle.measuring.specs.declared.Limit.TheVariants.{Default, Given}
use Rattle.writing.specs.Writing.{ToBytes}

-- In both modes, of every packet and output and any two stores: what meets a writer's promise by default meets it with 1,152 given, and
-- the other way round.
abbrev pub DefaultLimit : Type 0
DefaultLimit =
    (strict : Bool) (p : Packet) (s : Stores) (old : List ℕ) (r : Result ℕ Refusal) (new : List ℕ)
    → ToBytes strict Default p s old r new ↔ ToBytes strict (Given 1152) p s old r new
