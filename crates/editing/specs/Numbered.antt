-- Lists of things that have a number, records and options alike: leaving a number out, and putting one where it belongs.
use Rattle.std.specs.Prelude.{ℕ, Bool, false, List, [], ◌∷◌, ◌++◌, leb, eqb}
use Rattle.ground.specs.Choice.{pick, either}

module _ {A : Type 0} (number : A → ℕ) where
  -- Something has the number or a lower one.
  abbrev pub up_to_by : ℕ → List A → Bool
  up_to_by n [] = false
  up_to_by n (x ∷ xs) = either (leb (number x) n) (up_to_by n xs)

  -- New ones of a number stand after the last of the same or a lower number.
  abbrev pub inserted_by : ℕ → List A → List A → List A
  inserted_by n new [] = new
  inserted_by n new (x ∷ xs) = pick (up_to_by n (x ∷ xs)) (x ∷ inserted_by n new xs) (new ++ (x ∷ xs))

  -- All but those of a number.
  abbrev pub removed_by : ℕ → List A → List A
  removed_by n [] = []
  removed_by n (x ∷ xs) = pick (eqb (number x) n) (removed_by n xs) (x ∷ removed_by n xs)
