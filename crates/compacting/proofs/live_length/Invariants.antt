-- `live_length`: one walk sums the lengths of the values.
use Prim.Native.Nat.{◌≤◌}
use mathlib.Core.Path.{◌≡◌}
use lib.ListN.{length, take}
use Rattle.packet.specs.Limits.{max_options}
use Rattle.compacting.proofs.Walks.{Summing}
use Rattle.compacting.proofs.live_length.Given as goal

abbrev pub invariant-loop-i : goal.invariant-loop-i
invariant-loop-i l = ((l.count ≤ max_options) × (length l.options ≡ max_options)) × Summing (take l.count l.options) l.sum l.i
