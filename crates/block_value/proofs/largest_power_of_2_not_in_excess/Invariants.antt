-- `largest_power_of_2_not_in_excess` halves until 1 is left: the rest is the target over 2 to the power so far.
use Prim.Native.Nat.{◌+◌, ◌/◌, ◌^◌, ◌<◌, ◌≤◌}
use mathlib.Core.Path.{◌≡◌}
use Rattle.block_value.proofs.largest_power_of_2_not_in_excess.Given as goal

abbrev pub invariant-loop-rest : goal.invariant-loop-rest
invariant-loop-rest l = (l.rest ≡ l.target / 2 ^ l.power) × (0 < l.rest) × (l.power + l.rest ≤ l.target)

abbrev pub decreases-loop-rest : goal.decreases-loop-rest
decreases-loop-rest l = l.rest
