-- `count_blocks` counts block by block: what is counted and what is left make the whole.
use native.Mathlib.Omega.{arith}
use Rattle.planning.proofs.Loops.{none_counted, held_counted, block_counted, all_counted}
use Rattle.planning.proofs.count_blocks.Goals as goal

pub loop-unit-init : goal.loop-unit-init
loop-unit-init c = none_counted _

pub loop-unit-preserved-then-held-unit-eq0 : goal.loop-unit-preserved-then-held-unit-eq0
loop-unit-preserved-then-held-unit-eq0 c = block_counted _ _ _ c.loop-unit.invariant (omega arith) _ _ c.if-held-unit-eq0.true c.largest_at-block.ensures

pub loop-unit-preserved : goal.loop-unit-preserved
loop-unit-preserved c = held_counted _ _ _ c.loop-unit.invariant (omega arith) c.if-held-unit-eq0.false

pub returns : goal.returns
returns c = all_counted _ _ _ c.loop-unit.invariant (omega arith)
