-- `judge_from`: the walk over the messages keeps whether there is a value.
use Rattle.tracing.proofs.Judging.{RestWalk}
use lib.ListN.{length}
use Prim.Native.Nat.{◌-◌}
use Rattle.tracing.proofs.judge_from.Given as goal

abbrev pub invariant-loop-at : goal.invariant-loop-at
invariant-loop-at l = RestWalk l.form l.trace l.from l.at

abbrev pub decreases-loop-at : goal.decreases-loop-at
decreases-loop-at l = length l.trace - l.at
