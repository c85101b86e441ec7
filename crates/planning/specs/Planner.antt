-- Our planner (docs/RULES.md, Image plans): at each missing unit not yet covered, in rising order, the largest aligned block
-- that starts there and touches no held unit.
use Rattle.std.specs.Prelude.{ℕ, zero, suc, ◌+◌, ◌-◌, ◌*◌, ◌/◌, ◌%◌, ◌^◌, ◌≡◌, Bool, true, List, [], ◌∷◌, map, eqb, ltb, length, take, drop, Result}
use Rattle.ground.specs.Choice.{pick, both}
use Rattle.rfc.specs.Block.{Block, block_number}
use Rattle.refusal.specs.Answer.{Answer, refused, written, fitted, after}
use Rattle.refusal.specs.declared.Refusal.{Refusal}
use Rattle.image.specs.Image.{fits, alike}
use Rattle.plan_checking.specs.Plan.{start}
use Rattle.plan_checking.specs.Steps.{Width}

-- A block of 2 ^ exponent units may start at a unit: its width divides the unit's index, and those of its units that exist are
-- missing. `rest` is the held list from the unit on.
unfoldable pub may_start : ℕ → List ℕ → ℕ → Bool
may_start unit rest exponent = both (eqb (unit % 2 ^ exponent) 0) (alike true (take (2 ^ exponent) rest))

-- The largest exponent up to a bound of which a block may start there; 0 if none may.
unfoldable pub largest_up_to : ℕ → ℕ → List ℕ → ℕ
largest_up_to zero unit rest = 0
largest_up_to (suc e) unit rest = pick (may_start unit rest (suc e)) (suc e) (largest_up_to e unit rest)

-- A block has at most 1,024 bytes: 64 units.
abbrev pub largest : ℕ → List ℕ → ℕ
largest = largest_up_to 6

-- The block of an exponent that starts at a unit. More is false just where it reaches the image's end.
abbrev pub block_at : ℕ → ℕ → ℕ → Block
block_at size unit exponent =
    record { num = unit / 2 ^ exponent; more = ltb ((unit + 2 ^ exponent) * 16) size; szx = exponent }

-- The blocks from a unit on. The first `covered` units are in a block already and start none, a held unit starts none, and any
-- other starts the largest block that may start there.
unfoldable pub plan_from : ℕ → ℕ → ℕ → List ℕ → List Block
plan_from size unit covered [] = []
plan_from size unit (suc covered) (h ∷ hs) = plan_from size (suc unit) covered hs
plan_from size unit zero (h ∷ hs) =
    pick (eqb h 0)
    (block_at size unit (largest unit (h ∷ hs)) ∷ plan_from size (suc unit) (2 ^ largest unit (h ∷ hs) - 1) hs)
    (plan_from size (suc unit) 0 hs)

-- Our plan of an image, and its values.
unfoldable pub planned : ℕ → List ℕ → List Block
planned size held = plan_from size 0 0 held

abbrev pub values : ℕ → List ℕ → List ℕ
values size held = map block_number (planned size held)

-- The planner's answer: BadPlan (22) where size and held list don't fit, then NoRoom (12), else how many values.
unfoldable pub planning : ℕ → ℕ → List ℕ → Answer ℕ
planning room size held = pick (fits size held) (fitted room (values size held)) (refused 22)

-- What the planner promises, of its answer and of the list that is lent.
pub record Plans (size : ℕ) (held old : List ℕ) (r : Result ℕ Refusal) (new : List ℕ) : Type 0 where
  pub answer : written r ≡ planning (length old) size held
  pub list : new ≡ after (planning (length old) size held) 0 (values size held) old

-- The rule, of a block: it is the largest that may start where it starts.
abbrev pub Greedy : List ℕ → Block → Type 0
Greedy held b = b.szx ≡ largest (start b) (drop (start b) held)

-- The largest block at a unit, by its exponent and its width.
pub record Largest (held : List ℕ) (unit exponent width : ℕ) : Type 0 where
  pub is : exponent ≡ largest unit (drop unit held)
  pub wide : Width exponent width
