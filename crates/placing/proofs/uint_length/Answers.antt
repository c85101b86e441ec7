-- `uint_length` meets its contract: what is counted and what is left make all (`Counting`).
use native.Mathlib.Omega.{arith}
use Rattle.placing.proofs.Draining.{count_start, count_turn, count_end}
use Rattle.placing.proofs.uint_length.Goals as goal

pub loop-rest-init : goal.loop-rest-init
loop-rest-init c = count_start _ (omega arith)

pub loop-rest-preserved : goal.loop-rest-preserved
loop-rest-preserved c = count_turn (omega arith) c.loop-rest.invariant

pub returns : goal.returns
returns c = count_end (omega arith) c.loop-rest.invariant
