-- The severe rule: any record that breaks the register is refused, an elective one of a bad length and a surplus one too. It is here
-- for what the check lets pass beside it.
use Rattle.std.specs.Prelude.{ℕ, Bool, not, List, [], ◌∷◌, ◌++◌, length, ltb, Option, Some, None}
use Rattle.ground.specs.Choice.{pick, both, either}
use Rattle.ground.specs.Table.{listed}
use Rattle.rfc.specs.Option.{critical}
use Rattle.packet.specs.Packet.{records_of}
use Rattle.packet.specs.declared.Packet.{Packet}
use Rattle.judging.specs.declared.Lengths.{Lengths}
use Rattle.packet.specs.declared.OptionRecord.{OptionRecord}
use Rattle.register.specs.Register.{register, row_in}
use Rattle.register.specs.Check.{Check, passes, refused_at, if_in_order}
use Rattle.register.specs.declared.row.Row.{Row}

-- A record breaks its row: its value is too short or too long, or it is the second of a number not repeatable.
abbrev pub breaks_row : Row → ℕ → Bool → Bool
breaks_row r len again = either (ltb len r.shortest) (either (ltb r.longest len) (both again (not r.repeatable)))

-- What a listing says of a record of the number: an unlisted critical one breaks the register, an unlisted elective one passes.
abbrev pub breaks_listing : Option Row → ℕ → ℕ → Bool → Bool
breaks_listing (Some r) number len again = breaks_row r len again
breaks_listing None number len again = critical number

-- A record breaks the register, where `again` says that an earlier record has its number.
unfoldable pub breaks : Bool → OptionRecord → Bool
breaks again r = breaks_listing (row_in r.number register) r.number r.len again

-- The first record that breaks the register is named, where records of the numbers `earlier` stand before these.
abbrev pub first_break : List ℕ → List OptionRecord → Check
first_break earlier [] = passes
first_break earlier (r ∷ rs) =
    pick (breaks (listed r.number earlier) r) (refused_at 16 (length earlier))
    (first_break (earlier ++ (r.number ∷ [])) rs)

-- The severe check of a packet over stores of these lengths.
abbrev pub severely : Lengths → Packet → Check
severely lengths p = if_in_order lengths p (first_break [] (records_of p))
