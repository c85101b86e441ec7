-- Plans for the rest of an image: what the check accepts, which bytes a plan asks for, and what our planner writes.
use Rattle.std.specs.Prelude.{ℕ, ◌+◌, ◌*◌, ◌/◌, ◌<◌, ◌≤◌, ◌≡◌, ◌↔◌, Bool, true, List, [], ◌∷◌, ◌++◌, map, leb, ltb, length, take, drop, Result, Ok, Err}
use Rattle.ground.specs.Choice.{pick, both}
use Rattle.rfc.specs.Block.{Block, size, block_number, block_of}
use Rattle.refusal.specs.declared.Refusal.{Refusal}
use Rattle.refusal.specs.declared.Refusal.TheVariants.{BadPlan}
use Rattle.image.specs.Image.{units, fits, missing, NoneMissing}
use Rattle.plan_checking.specs.Plan.{Checks}
use Rattle.plan_checking.specs.Accepted.{Each, Accepted, Good}
use Rattle.planning.specs.Planner.{Greedy, Plans}

-- The check is done exactly when size and held list fit and the plan is accepted. Otherwise its answer is BadPlan.
abbrev pub ChecksExactly : Type 0
ChecksExactly =
    (bytes : ℕ) (held values : List ℕ) (r : Result (Unit {0}) Refusal) → Checks bytes held values r
    → ((r ≡ Ok tt) ↔ Good bytes held values) × ((r ≡ Err BadPlan) ↔ (Good bytes held values → ⊥))

-- The block asks for the byte: it has as many as its size says, from its number times its size on (RFC 7959 2.2).
abbrev pub asks : Block → ℕ → Bool
asks b byte = both (leb (b.num * size b.szx) byte) (ltb byte ((b.num + 1) * size b.szx))

-- How many of the blocks ask for the byte.
abbrev pub asked : ℕ → List Block → ℕ
asked byte [] = 0
asked byte (b ∷ bs) = pick (asks b byte) 1 0 + asked byte bs

-- No accepted plan is overlaid: each byte of the image is asked for once if its unit is missing, and never if it is held.
abbrev pub NeverOverlaid : Type 0
NeverOverlaid =
    (bytes : ℕ) (held values : List ℕ) → Good bytes held values
    → (byte : ℕ) → byte < bytes → asked byte (map block_of values) ≡ pick (missing held (byte / 16)) 1 0

-- What is known of the values that our planner wrote.
pub record OurPlan (bytes : ℕ) (held values : List ℕ) : Type 0 where
  -- They are an accepted plan, and whatever meets the check's promise says so.
  pub good : Good bytes held values
  pub passes : (r : Result (Unit {0}) Refusal) → Checks bytes held values r → r ≡ Ok tt
  -- It is the plan that the rule names: each block is the largest where it starts, and no other accepted plan is so.
  pub greedy : Each (Greedy held) (map block_of values)
  pub only : (bs : List Block) → Accepted bytes held bs → Each (Greedy held) bs → map block_number bs ≡ values
  -- It is empty exactly when nothing is missing.
  pub empty : (values ≡ []) ↔ NoneMissing held 0 (length held)
  -- It has at most half as many blocks as there are units, rounded up.
  pub half : length values ≤ (units bytes + 1) / 2

-- A planner that answers a length has written such a plan to the front of the list, and the rest of it is as it was.
abbrev pub PlansWell : Type 0
PlansWell =
    (bytes : ℕ) (held old : List ℕ) (r : Result ℕ Refusal) (new : List ℕ) → Plans bytes held old r new → (n : ℕ) → r ≡ Ok n
    → OurPlan bytes held (take n new) × (new ≡ take n new ++ drop n old)

-- Where size and held list fit, a list of half as many numbers as there are units, rounded up, is never too short; so 32,768
-- are enough for every image.
abbrev pub RoomEnough : Type 0
RoomEnough =
    (bytes : ℕ) (held old : List ℕ) (r : Result ℕ Refusal) (new : List ℕ) → Plans bytes held old r new → fits bytes held ≡ true
    → ((units bytes + 1) / 2 ≤ length old → (n : ℕ) × (r ≡ Ok n)) × (32768 ≤ length old → (n : ℕ) × (r ≡ Ok n))

-- A planner that is refused leaves the list as it was.
abbrev pub ListKept : Type 0
ListKept =
    (bytes : ℕ) (held old : List ℕ) (r : Result ℕ Refusal) (new : List ℕ) → Plans bytes held old r new
    → (e : Refusal) → r ≡ Err e → new ≡ old

-- A plan has one verdict; and an image, with what is held of it, one plan in one list.
abbrev pub OneVerdict : Type 0
OneVerdict = (bytes : ℕ) (held values : List ℕ) (r s : Result (Unit {0}) Refusal) → Checks bytes held values r → Checks bytes held values s → r ≡ s

abbrev pub OnePlan : Type 0
OnePlan =
    (bytes : ℕ) (held old : List ℕ) (r s : Result ℕ Refusal) (new other : List ℕ)
    → Plans bytes held old r new → Plans bytes held old s other → (r ≡ s) × (new ≡ other)
