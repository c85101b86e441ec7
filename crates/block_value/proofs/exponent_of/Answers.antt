-- `exponent_of`: the power that was found is the one that the definition computes.
use Prim.Native.Nat.{ℕ, ◌<◌}
use mathlib.Core.Path.{◌≡◌}
use native.Mathlib.Omega.{arith}
use Rattle.block_value.specs.Size.{Floor, power_up_to, exponent_of}
use Rattle.block_value.proofs.Powers.{one_floor, power_floor, power_bound}
use Rattle.block_value.proofs.exponent_of.Goals as goal

-- The power that was found is the one that the definition computes.
found : {size power : ℕ} → Floor size power → 0 < size → size < 4096 → power ≡ power_up_to 11 size
found {size} {power} f low high = one_floor size power (power_up_to 11 size) f (power_floor 11 size low high)

pub returns-then-power-lt4 : goal.returns-then-power-lt4
unfolding exponent_of
returns-then-power-lt4 c = omega (arith, found c.largest_power_of_2_not_in_excess-power.ensures c.requires.0 c.requires.1)

pub overflow_cast-result : goal.overflow_cast-result
overflow_cast-result c = omega (arith, found c.largest_power_of_2_not_in_excess-power.ensures c.requires.0 c.requires.1, power_bound 11 c.args.size)

pub returns : goal.returns
unfolding exponent_of
returns c = omega (arith, found c.largest_power_of_2_not_in_excess-power.ensures c.requires.0 c.requires.1)
