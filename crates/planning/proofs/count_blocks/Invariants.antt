-- `count_blocks` counts block by block: what is counted and what is left make the whole.
use Prim.Native.Nat.{◌-◌}
use lib.ListN.{length}
use Rattle.planning.proofs.Loops.{Counted}
use Rattle.planning.proofs.count_blocks.Given as goal

abbrev pub invariant-loop-unit : goal.invariant-loop-unit
invariant-loop-unit l = Counted l.held l.unit l.count

abbrev pub decreases-loop-unit : goal.decreases-loop-unit
decreases-loop-unit l = length l.held - l.unit
