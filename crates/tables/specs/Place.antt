-- Where a number stands in a table.
use Rattle.std.specs.Prelude.{ℕ, suc, List, [], ◌∷◌, eqb, Option, Some, None}
use Rattle.ground.specs.Choice.{pick}

-- The first place of a number in a table whose first entry has the place `i`.
abbrev pub place_from : ℕ → ℕ → List ℕ → Option ℕ
place_from i n [] = None
place_from i n (x ∷ xs) = pick (eqb n x) (Some i) (place_from (suc i) n xs)

-- The first place of a number in a table, counted from 0.
abbrev pub place_of : ℕ → List ℕ → Option ℕ
place_of n xs = place_from 0 n xs
