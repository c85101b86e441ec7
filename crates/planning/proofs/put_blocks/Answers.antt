-- `put_blocks` writes block by block: what is written and what is left make the whole.
use native.Mathlib.Omega.{arith}
use Rattle.planning.proofs.Largest.{largest_bound}
use Rattle.planning.proofs.Loops.{none_put, held_put, block_put, place, all_put}
use Rattle.planning.proofs.put_blocks.Goals as goal

pub loop-unit-init : goal.loop-unit-init
loop-unit-init c = none_put _ _ _ c.requires.1

pub value_at-requires : goal.value_at-requires
value_at-requires c = (omega arith, c.largest_at-block.ensures.wide, omega (arith, c.largest_at-block.ensures.is, largest_bound c.args.held.now c.loop-unit.unit 6))

pub bounds-list-count : goal.bounds-list-count
bounds-list-count c = place _ _ _ _ _ _ c.loop-unit.invariant (omega arith) _ _ c.if-held-unit-eq0.true c.largest_at-block.ensures

pub loop-unit-preserved-then-held-unit-eq0 : goal.loop-unit-preserved-then-held-unit-eq0
loop-unit-preserved-then-held-unit-eq0 c = block_put _ _ _ _ _ _ c.loop-unit.invariant (omega arith) _ _ c.if-held-unit-eq0.true c.largest_at-block.ensures c.value_at.result c.value_at.ensures

pub loop-unit-preserved : goal.loop-unit-preserved
loop-unit-preserved c = held_put _ _ _ _ _ _ c.loop-unit.invariant (omega arith) c.if-held-unit-eq0.false

pub returns : goal.returns
returns c = all_put _ _ _ _ _ _ c.loop-unit.invariant (omega arith)
