-- `judge_strictly`: the walk over the messages keeps the whole answer.
use Prim.Native.Nat.{◌-◌}
use lib.ListN.{length}
use Rattle.thawing.proofs.Judging.{StrictWalk}
use Rattle.thawing.proofs.judge_strictly.Given as goal

abbrev pub invariant-loop-at : goal.invariant-loop-at
invariant-loop-at l = StrictWalk l.form l.stream l.other l.count l.bytes l.chunks l.at

abbrev pub decreases-loop-at : goal.decreases-loop-at
decreases-loop-at l = length l.stream - l.at
