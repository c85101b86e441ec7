-- The table as lent bytes: 64 places of 25 bytes.
use Rattle.std.specs.Prelude.{ℕ, zero, suc, ◌+◌, ◌/◌, ◌%◌, List, [], ◌∷◌, ◌++◌, eqb, get_or}
use Rattle.ground.specs.Choice.{pick}
use Rattle.ground.specs.Part.{part}
use Rattle.rfc.specs.Uint.{number}
use Rattle.rfc.specs.Duplicates.{Arrival}
use Rattle.hearing.specs.Table.{Place, unused, holds}

-- How many bytes a table has.
abbrev pub table_size : ℕ
table_size = 1600

-- The entry at a position, of a type: after its first byte 18 of peer, then 2 of id and 4 of time, high byte first.
abbrev pub entry_at : ℕ → List ℕ → ℕ → Arrival
entry_at type s at =
    record { time = number (part s (at + 21) 4); type = type; peer = part s (at + 1) 18; id = number (part s (at + 19) 2) }

-- The place at a position: a first byte of 1 is a confirmable entry, 2 a non-confirmable one, and any other byte is unused.
unfoldable pub place_at : List ℕ → ℕ → Place
place_at s at =
    pick (eqb (get_or s at 0) 1) (holds (entry_at 0 s at))
    (pick (eqb (get_or s at 0) 2) (holds (entry_at 1 s at)) unused)

-- So many places from a position on; and the 64 of a table.
unfoldable pub places_from : ℕ → List ℕ → ℕ → List Place
places_from zero s at = []
places_from (suc n) s at = place_at s at ∷ places_from n s (at + 25)

abbrev pub places : List ℕ → List Place
places s = places_from 64 s 0

-- The two bytes of a number, and the four, high byte first.
abbrev pub two_bytes : ℕ → List ℕ
two_bytes n = (n / 256) ∷ (n % 256) ∷ []

abbrev pub four_bytes : ℕ → List ℕ
four_bytes n = (n / 16777216) ∷ (n / 65536 % 256) ∷ (n / 256 % 256) ∷ (n % 256) ∷ []

-- The 25 bytes of an entry.
abbrev pub entry_bytes : Arrival → List ℕ
entry_bytes e = (e.type + 1) ∷ (e.peer ++ (two_bytes e.id ++ four_bytes e.time))
