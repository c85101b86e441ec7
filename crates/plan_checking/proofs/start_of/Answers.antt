-- `start_of`: the product fits.
use native.Mathlib.Omega.{arith}
use Rattle.plan_checking.proofs.Powers.{start_at}
use Rattle.plan_checking.proofs.start_of.Goals as goal

pub returns : goal.returns
returns c = start_at c.args.value c.width_of.result (omega arith) c.width_of.ensures
