-- The table of the messages that are remembered: its places, and what the duplicate rule answers over them.
use Rattle.std.specs.Prelude.{ℕ, suc, Bool, true, not, List, [], ◌∷◌, ltb, length}
use Rattle.ground.specs.Choice.{pick}
use Rattle.rfc.specs.Duplicates.{Arrival, Verdict, new, duplicate, passed, passes, unexpired, stands}
use Rattle.refusal.specs.Answer.{Answer, given, refused}

-- A place of the table.
pub data Place : Type 0 where
  unused : Place
  holds : Arrival → Place

-- The entries of places, in their order.
abbrev pub entries : List Place → List Arrival
entries [] = []
entries (unused ∷ ps) = entries ps
entries (holds e ∷ ps) = e ∷ entries ps

-- A place is free where it is unused or expired.
abbrev pub free : ℕ → Place → Bool
free now unused = true
free now (holds e) = not (unexpired now e)

-- The lowest-numbered free place; the number of places where none is free.
unfoldable pub lowest : ℕ → List Place → ℕ
lowest now [] = 0
lowest now (p ∷ ps) = pick (free now p) 0 (suc (lowest now ps))

-- What the rule answers over a table: the duplicate rule over its entries, but a new one that finds no free place is refused, NoRoom
-- (12).
unfoldable pub judging : List Place → Arrival → Answer Verdict
judging table m =
    pick (passes m) (given passed)
    (pick (stands m (entries table)) (given duplicate)
    (pick (ltb (lowest m.time table) (length table)) (given new) (refused 12)))
