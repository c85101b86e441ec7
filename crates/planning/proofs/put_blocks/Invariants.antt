-- `put_blocks` writes block by block: what is written and what is left make the whole.
use Prim.Native.Nat.{◌-◌}
use lib.ListN.{length}
use Rattle.planning.proofs.Loops.{Putting}
use Rattle.planning.proofs.put_blocks.Given as goal

abbrev pub invariant-loop-unit : goal.invariant-loop-unit
invariant-loop-unit l = Putting l.size l.held l.initial.list l.list l.unit l.count

abbrev pub decreases-loop-unit : goal.decreases-loop-unit
decreases-loop-unit l = length l.held - l.unit
