-- `put_decimal` meets its contract: the digits that are stored stand behind those of what is left (`Left`).
use Rattle.decimal.proofs.Filling.{turn, finish}
use Rattle.decimal.proofs.put_decimal.Goals as goal

pub loop-rest-preserved : goal.loop-rest-preserved
loop-rest-preserved c = turn _ _ c.loop-rest.invariant c.loop-rest-test.true

pub returns : goal.returns
returns c =
    rw (finish _ _ c.loop-rest.invariant c.loop-rest-test.false) c.put_bytes.ensures
