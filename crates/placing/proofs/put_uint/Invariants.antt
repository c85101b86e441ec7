-- `put_uint` meets its contract: the bytes that are stored stand behind those of what is left (`Filling`).
use Rattle.placing.proofs.Draining.{Filling}
use Rattle.placing.proofs.put_uint.Given as goal

abbrev pub invariant-loop-rest : goal.invariant-loop-rest
invariant-loop-rest l = Filling l.value l.bytes l.first l.rest

abbrev pub decreases-loop-rest : goal.decreases-loop-rest
decreases-loop-rest l = l.rest
