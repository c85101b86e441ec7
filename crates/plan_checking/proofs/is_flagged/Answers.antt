-- `is_flagged` holds the bit to the side of the image's end that the block's end is on.
use Prim.Native.Nat.{◌*◌}
use native.Mathlib.Omega.{arith}
use borrow.Author.Tests.{lt-ltb, le-ltb}
use Rattle.rfc.specs.Block.{block_of}
use Rattle.plan_checking.specs.Plan.{stop}
use Rattle.plan_checking.proofs.Tests.{is_true, is_false}
use Rattle.plan_checking.proofs.is_flagged.Goals as goal

pub returns-then-end-size : goal.returns-then-end-size
unfolding block_of
returns-then-end-size c = is_true _ _ (lt-ltb (stop (block_of c.args.value) * 16) c.args.size (omega (arith, c.if-end-size.true, c.requires.is)))

pub returns : goal.returns
unfolding block_of
returns c = is_false _ _ (le-ltb (stop (block_of c.args.value) * 16) c.args.size (omega (arith, c.if-end-size.false, c.requires.is)))
