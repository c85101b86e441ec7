-- Parts of a list, and what is in it.
use Rattle.std.specs.Prelude.{ℕ, ◌<◌, ◌≡◌, List, [], ◌∷◌, ◌⊎◌, take, drop}

-- The `len` elements from `start`; fewer where the list ends before.
abbrev pub part {ℓ} : {A : Type ℓ} → List A → ℕ → ℕ → List A
part s start len = take len (drop start s)

-- Each element is a byte.
abbrev pub Bytes : List ℕ → Type 0
Bytes [] = Unit {0}
Bytes (b ∷ bs) = (b < 256) × Bytes bs

-- One of these elements.
abbrev pub Among : {A : Type 0} → A → List A → Type 0
Among a [] = ⊥
Among a (x ∷ xs) = (a ≡ x) ⊎ Among a xs
