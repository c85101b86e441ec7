-- What the steps of the check answer.
use Rattle.std.specs.Prelude.{ℕ, ◌^◌, ◌<◌, ◌≤◌, ◌≡◌, Bool, true, false, List, length}
use Rattle.rfc.specs.Block.{Block, Valid}
use Rattle.image.specs.Image.{NoneMissing, NoneHeld}
use Rattle.plan_checking.specs.Plan.{start, stop}
use Rattle.plan_checking.specs.Accepted.{Flagged}

-- A test that is true exactly where something holds.
pub data Decides (P : Type 0) : Bool → Type 0 where
  yes : P → Decides P true
  no : (P → ⊥) → Decides P false

-- A block may be the next in a plan whose blocks so far stop at the unit `at`.
pub record Next (size : ℕ) (held : List ℕ) (at : ℕ) (b : Block) : Type 0 where
  pub strict : Valid b
  pub after : at ≤ start b
  pub inside : start b < length held
  pub more : Flagged size b
  pub gap : NoneMissing held at (start b)
  pub whole : NoneHeld held (start b) (stop b)

-- 2 to an exponent of 3 bits.
pub record Width (exponent r : ℕ) : Type 0 where
  pub is : r ≡ 2 ^ exponent
  pub least : 1 ≤ r
  pub most : r ≤ 128

-- A unit of a block, in a number that is far from full.
pub record At (unit r : ℕ) : Type 0 where
  pub is : r ≡ unit
  pub most : r ≤ 34359738368
