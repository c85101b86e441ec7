-- The table of classes: the entry that the rule asks for at each code byte, and the class that an entry names.
use Rattle.std.specs.Prelude.{ℕ, zero, suc, List, [], ◌∷◌, eqb, get_or}
use Rattle.ground.specs.Choice.{pick}
use Rattle.class.specs.Class.{byte_of, named}
use Rattle.class.specs.declared.MessageClass.{MessageClass}
use Rattle.class.specs.declared.MessageClass.TheVariants.{Reserved}

-- The place of the first of these classes whose byte is `b`; past the last where there is none.
abbrev pub place : List MessageClass → ℕ → ℕ
place [] b = 0
place (c ∷ cs) b = pick (eqb b (byte_of c)) 0 (suc (place cs b))

-- The places of `n` bytes from `b` on, each that of its class among those that have a name.
abbrev pub entries_from : ℕ → ℕ → List ℕ
entries_from b zero = []
entries_from b (suc n) = place named b ∷ entries_from (suc b) n

-- The whole table: an entry for each code byte.
unfoldable pub entries : List ℕ
entries = entries_from 0 256

-- The class that an entry names: the one at its place, and past the last place the reserved one of the byte.
unfoldable pub class_named : ℕ → ℕ → MessageClass
class_named entry byte = get_or named entry (Reserved byte)
