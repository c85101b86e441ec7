-- `put_piece`: the bytes stand in the array, one more with each turn of the first loop, and in the output by the second.
use native.Mathlib.Omega.{arith}
use Rattle.placing.proofs.Copy.{copied_more}
use Rattle.placing.proofs.put_piece.Goals as goal

pub loop-j-preserved : goal.loop-j-preserved
loop-j-preserved c =
    (c.loop-j.invariant.0, rw (c.loop-j.invariant.1, c.loop-j.invariant.0 c.loop-j.j (omega arith)) (copied_more _ _ _ _ c.loop-j-test.true))
