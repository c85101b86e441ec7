-- `judge`: the walk over the messages keeps the whole answer.
use Rattle.tracing.proofs.Judging.{JudgeWalk}
use lib.ListN.{length}
use Prim.Native.Nat.{◌-◌}
use Rattle.tracing.proofs.judge.Given as goal

abbrev pub invariant-loop-at : goal.invariant-loop-at
invariant-loop-at l = JudgeWalk l.form l.trace l.count l.at

abbrev pub decreases-loop-at : goal.decreases-loop-at
decreases-loop-at l = length l.trace - l.at
