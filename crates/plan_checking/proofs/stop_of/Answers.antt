-- `stop_of`: the product fits.
use native.Mathlib.Omega.{arith}
use Rattle.plan_checking.proofs.Powers.{stop_at}
use Rattle.plan_checking.proofs.stop_of.Goals as goal

pub returns : goal.returns
returns c = stop_at c.args.value c.width_of.result (omega arith) c.width_of.ensures
