-- `put_decimal` meets its contract: the digits that are stored stand behind those of what is left (`Left`).
use Rattle.decimal.proofs.Filling.{Left}
use Rattle.decimal.proofs.put_decimal.Given as goal

abbrev pub invariant-loop-rest : goal.invariant-loop-rest
invariant-loop-rest l = Left l.number l.digits l.first l.rest

abbrev pub decreases-loop-rest : goal.decreases-loop-rest
decreases-loop-rest l = l.rest
