-- `uint_length` meets its contract: what is counted and what is left make all (`Counting`).
use Rattle.placing.proofs.Draining.{Counting}
use Rattle.placing.proofs.uint_length.Given as goal

abbrev pub invariant-loop-rest : goal.invariant-loop-rest
invariant-loop-rest l = Counting l.value l.rest l.count

abbrev pub decreases-loop-rest : goal.decreases-loop-rest
decreases-loop-rest l = l.rest
