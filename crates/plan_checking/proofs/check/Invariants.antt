-- `check` goes through the values: what is left of the plan is a plan from the end of the block before.
use Rattle.plan_checking.proofs.Left.{Left}
use Rattle.plan_checking.proofs.check.Given as goal

abbrev pub invariant-loop-value : goal.invariant-loop-value
invariant-loop-value l = Left l.size l.held l.plan l.at l.value-index
