-- `largest_power_of_2_not_in_excess` halves until 1 is left: the rest is the target over 2 to the power so far.
use Prim.Native.Nat.{ℕ, ◌/◌}
use mathlib.Core.Path.{ap, sym, ◌∙◌}
use native.Mathlib.Omega.{arith}
use lib.Pow.{shr-shr}
use Rattle.block_value.proofs.Powers.{halved}
use Rattle.block_value.proofs.largest_power_of_2_not_in_excess.Goals as goal

pub loop-rest-preserved : goal.loop-rest-preserved
loop-rest-preserved c = (
  ap (λ (n : ℕ). n / 2) c.loop-rest.invariant.0 ∙ shr-shr c.args.target c.loop-rest.power 1,
  omega arith,
  omega arith,
)

pub returns : goal.returns
returns c = halved c.args.target c.loop-rest.power (sym c.loop-rest.invariant.0 ∙ (omega arith))
