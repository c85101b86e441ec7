-- Telling apart: what 'no second answer' is said with. A promise that tells its answer by a definition has one answer where different
-- answers are told differently.
use Rattle.std.specs.Prelude.{◌≡◌}

-- Different answers are told differently.
abbrev pub TellsApart : {A B : Type 0} → (A → B) → Type 0
TellsApart {A} f = (x y : A) → f x ≡ f y → x ≡ y
