-- An image and its units of 16 bytes, each held or missing.
use Rattle.std.specs.Prelude.{ℕ, ◌+◌, ◌/◌, ◌<◌, ◌≤◌, ◌≡◌, Bool, true, List, [], ◌∷◌, eqb, length, get_or}
use Rattle.std.specs.Bool.{beq}
use Rattle.ground.specs.Choice.{both, within}

-- The units of an image of this many bytes; the last may be a part of one.
abbrev pub units : ℕ → ℕ
units size = (size + 15) / 16

-- An image has 1 to 1,048,576 bytes, and its held list has a byte for each unit.
unfoldable pub fits : ℕ → List ℕ → Bool
fits size held = both (within 1 1048576 size) (eqb (length held) (units size))

-- A unit is missing where its byte is 0, and held where it is any other.
abbrev pub missing : List ℕ → ℕ → Bool
missing held unit = eqb (get_or held unit 0) 0

-- Of these units, by their bytes, all are missing; or, asked for `false`, all are held.
abbrev pub alike : Bool → List ℕ → Bool
alike wanted [] = true
alike wanted (h ∷ hs) = both (beq (eqb h 0) wanted) (alike wanted hs)

-- The same as facts. The unit exists, and its byte is 0.
pub record Missing (held : List ℕ) (unit : ℕ) : Type 0 where
  pub exists : unit < length held
  pub zero : get_or held unit 0 ≡ 0

-- The unit exists, and its byte isn't 0.
pub record Held (held : List ℕ) (unit : ℕ) : Type 0 where
  pub exists : unit < length held
  pub other : get_or held unit 0 ≡ 0 → ⊥

-- No unit from one to before another is missing; none is held.
abbrev pub NoneMissing : List ℕ → ℕ → ℕ → Type 0
NoneMissing held from to = (unit : ℕ) → from ≤ unit → unit < to → Missing held unit → ⊥

abbrev pub NoneHeld : List ℕ → ℕ → ℕ → Type 0
NoneHeld held from to = (unit : ℕ) → from ≤ unit → unit < to → Held held unit → ⊥
