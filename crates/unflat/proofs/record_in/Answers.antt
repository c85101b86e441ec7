-- `record_in`: the fields hold the number and the home.
use native.Mathlib.Omega.{arith}
use Rattle.unflat.proofs.Unflat.{number_small}
use Rattle.unflat.proofs.record_in.Goals as goal

pub overflow_cast-result : goal.overflow_cast-result
overflow_cast-result c = omega (arith, number_small _ _ c.requires.1)
