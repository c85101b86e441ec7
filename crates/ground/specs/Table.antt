-- Tests over a whole table of numbers, which the checker computes; proofs/Table.antt turns each into its rule.
use Rattle.std.specs.Prelude.{ℕ, suc, Bool, true, false, not, List, [], ◌∷◌, eqb}
use Rattle.ground.specs.Choice.{both, either}

-- The number stands in the table.
abbrev pub listed : ℕ → List ℕ → Bool
listed n [] = false
listed n (x ∷ xs) = either (eqb n x) (listed n xs)

-- No number stands in the table twice.
abbrev pub once : List ℕ → Bool
once [] = true
once (x ∷ xs) = both (not (listed x xs)) (once xs)

-- The test `f` passes at each place, counted from `i`, and its entry.
abbrev pub every : (ℕ → ℕ → Bool) → ℕ → List ℕ → Bool
every f i [] = true
every f i (x ∷ xs) = both (f i x) (every f (suc i) xs)
