-- The same as facts: what it says that a plan is accepted, clause by clause.
use Rattle.std.specs.Prelude.{ℕ, ◌*◌, ◌<◌, ◌≡◌, true, List, [], ◌∷◌, map, ltb, length}
use Rattle.rfc.specs.Block.{Block, Valid, block_of}
use Rattle.image.specs.Image.{fits, Missing, Held}
use Rattle.plan_checking.specs.Plan.{start, stop, over}

-- It holds of each block.
abbrev pub Each : (Block → Type 0) → List Block → Type 0
Each P [] = Unit {0}
Each P (b ∷ bs) = P b × Each P bs

-- Each block starts before all blocks after it.
abbrev pub Rising : List Block → Type 0
Rising [] = Unit {0}
Rising (b ∷ bs) = Each (λ (d : Block). start b < start d) bs × Rising bs

-- More is true just where the block stops before the image ends.
abbrev pub Flagged : ℕ → Block → Type 0
Flagged size b = b.more ≡ ltb (stop b * 16) size

-- Each block is strict; starts rise, and are inside the image; each missing unit is in exactly one block, and no held one in
-- any; more is as it has to be.
pub record Accepted (size : ℕ) (held : List ℕ) (bs : List Block) : Type 0 where
  pub strict : Each Valid bs
  pub rising : Rising bs
  pub inside : Each (λ (b : Block). start b < length held) bs
  pub once : (unit : ℕ) → Missing held unit → over unit bs ≡ 1
  pub free : (unit : ℕ) → Held held unit → over unit bs ≡ 0
  pub more : Each (Flagged size) bs

-- Size and held list fit, and the values are those of an accepted plan.
pub record Good (size : ℕ) (held values : List ℕ) : Type 0 where
  pub image : fits size held ≡ true
  pub plan : Accepted size held (map block_of values)
