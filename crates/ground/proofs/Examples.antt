-- Worked examples of choices, parts and tables, computed by the definitions.
use Prim.Native.Nat.{ℕ, ◌*◌}
use mathlib.Core.Path.{◌≡◌, refl}
use mathlib.Core.Bool.{Bool, true, false}
use mathlib.Core.List.{List, [], ◌∷◌, map}
use native.Mathlib.Omega.{arith}
use lib.Dec.{eqb, lit<}
use Rattle.ground.specs.Choice.{pick, both, either, within}
use Rattle.ground.specs.Part.{part, Bytes}
use Rattle.ground.specs.Table.{listed, once, every}

-- Where a test holds the first is picked, else the second.
picked : map (λ t. pick {A = ℕ} t 3 5) (true ∷ false ∷ []) ≡ (3 ∷ 5 ∷ [])
picked = refl

-- A second test beside one that holds, and beside one that doesn't.
tests : List Bool
tests = false ∷ true ∷ []

both_hold : (map (both true) tests ≡ tests) × (map (both false) tests ≡ (false ∷ false ∷ []))
unfolding tests
both_hold = (refl, refl)

one_holds : (map (either true) tests ≡ (true ∷ true ∷ [])) × (map (either false) tests ≡ tests)
unfolding tests
one_holds = (refl, refl)

-- A range has both its ends.
ends : map (within 3 5) (2 ∷ 3 ∷ 5 ∷ 6 ∷ []) ≡ (false ∷ true ∷ true ∷ false ∷ [])
ends = refl

-- A part inside, at the end, over it and past it.
letters : List ℕ
letters = 0x61 ∷ 0x62 ∷ 0x63 ∷ 0x64 ∷ []

parts : (part letters 1 2 ≡ (0x62 ∷ 0x63 ∷ [])) × (part letters 2 2 ≡ (0x63 ∷ 0x64 ∷ [])) × (part letters 3 2 ≡ (0x64 ∷ [])) × (part letters 4 1 ≡ []) × (part letters 1 0 ≡ [])
unfolding letters
parts = (refl, refl, refl, refl, refl)

-- 255 is a byte, and 256 isn't, wherever it stands.
bytes : Bytes (0 ∷ 255 ∷ [])
bytes = (lit< tt, (lit< tt, tt))

no_byte : Bytes (256 ∷ 0 ∷ []) → ⊥
no_byte b = omega (arith, b.0)

no_byte_last : Bytes (0 ∷ 256 ∷ []) → ⊥
no_byte_last b = omega (arith, b.1.0)

-- What stands in a table, at its front and at its end.
in_table : map (λ n. listed n (4 ∷ 9 ∷ [])) (4 ∷ 9 ∷ 5 ∷ []) ≡ (true ∷ true ∷ false ∷ [])
in_table = refl

-- Numbers that stand twice, side by side and apart.
repeats : map once ([] ∷ (4 ∷ 9 ∷ 5 ∷ []) ∷ (4 ∷ 4 ∷ 9 ∷ []) ∷ (4 ∷ 9 ∷ 4 ∷ []) ∷ (9 ∷ 4 ∷ 4 ∷ []) ∷ []) ≡ (true ∷ true ∷ false ∷ false ∷ false ∷ [])
repeats = refl

-- A rule of entries by their places, the first of which is counted 3.
places : map (every (λ i x. eqb x (i * 2)) 3) ([] ∷ (6 ∷ 8 ∷ []) ∷ (6 ∷ 6 ∷ []) ∷ (0 ∷ 8 ∷ []) ∷ []) ≡ (true ∷ true ∷ false ∷ false ∷ [])
places = refl
