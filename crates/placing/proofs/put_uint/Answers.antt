-- `put_uint` meets its contract: the bytes that are stored stand behind those of what is left (`Filling`).
use native.Mathlib.Omega.{arith}
use Rattle.placing.proofs.Draining.{fill_turn, fill_end}
use Rattle.placing.proofs.put_uint.Goals as goal

pub loop-rest-preserved : goal.loop-rest-preserved
loop-rest-preserved c = fill_turn _ _ c.loop-rest.invariant c.loop-rest-test.true

pub returns : goal.returns
returns c =
    rw (fill_end _ _ c.loop-rest.invariant (omega arith)) c.put_bytes.ensures
