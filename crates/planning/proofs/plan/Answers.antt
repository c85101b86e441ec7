-- `plan` writes where the list has room: for half as many as there are units, or for those that it counts.
use Prim.Native.Nat.{ℕ, ◌+◌, ◌/◌, ◌≤◌}
use mathlib.Core.Path.{◌≡◌, sym, ◌∙◌}
use mathlib.Core.Bool.{Bool, true}
use mathlib.Core.List.{List}
use native.Mathlib.Omega.{arith}
use lib.ListN.{length}
use Rattle.image.specs.Image.{fits}
use Rattle.planning.specs.Planner.{planned}
use Rattle.image.proofs.Fitting.{few_units}
use Rattle.planning.proofs.Answered.{bad_image, too_long, written_out}
use Rattle.planning.proofs.Bound.{half_as_many}
use Rattle.planning.proofs.plan.Goals as goal

passed : (size : ℕ) (held : List ℕ) (t : Bool) → t ≡ fits size held → t ≡ true → fits size held ≡ true
passed size held t e h = sym e ∙ h

roomy : (size : ℕ) (held list : List ℕ) → (length held + 1) / 2 ≤ length list → length (planned size held) ≤ length list
roomy size held list h = omega (arith, half_as_many size held)

pub returns-then-not-is_image : goal.returns-then-not-is_image
returns-then-not-is_image c = bad_image _ _ _ (sym c.is_image.ensures ∙ c.if-not-is_image.true)

pub put_blocks-requires : goal.put_blocks-requires
put_blocks-requires c =
    (few_units _ _ (passed _ _ _ c.is_image.ensures c.if-not-is_image.false), roomy _ _ _ c.if-held-list.true)

pub returns-then-held-list : goal.returns-then-held-list
returns-then-held-list c =
    written_out _ _ _ (passed _ _ _ c.is_image.ensures c.if-not-is_image.false) _ _ (roomy _ _ _ c.if-held-list.true) c.put_blocks.ensures

pub count_blocks-requires : goal.count_blocks-requires
count_blocks-requires c = few_units _ _ (passed _ _ _ c.is_image.ensures c.if-not-is_image.false)

pub returns-then-list-count_blocks : goal.returns-then-list-count_blocks
returns-then-list-count_blocks c =
    too_long _ _ _ (passed _ _ _ c.is_image.ensures c.if-not-is_image.false) _ (c.count_blocks.ensures _) c.if-list-count_blocks.true

pub put_blocks-requires-2 : goal.put_blocks-requires-2
put_blocks-requires-2 c =
    (few_units _ _ (passed _ _ _ c.is_image.ensures c.if-not-is_image.false), omega (arith, c.if-list-count_blocks.false, c.count_blocks.ensures c.args.size))

pub returns : goal.returns
returns c =
    written_out _ _ _ (passed _ _ _ c.is_image.ensures c.if-not-is_image.false) _ _
    (omega (arith, c.if-list-count_blocks.false, c.count_blocks.ensures c.args.size)) c.put_blocks-2.ensures
