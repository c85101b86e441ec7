-- `gather`: token, values and payload are put one after the other.
use Prim.Native.Nat.{◌≤◌}
use mathlib.Core.Path.{◌≡◌}
use lib.ListN.{length, take}
use Rattle.packet.specs.Limits.{max_options}
use Rattle.packet.specs.Packet.{held}
use Rattle.compacting.proofs.Walks.{Gathering}
use Rattle.compacting.proofs.gather.Given as goal

abbrev pub invariant-loop-i : goal.invariant-loop-i
invariant-loop-i l = ((l.count ≤ max_options) × (length l.options ≡ max_options)) × Gathering (held l.stores) (take l.count l.options) l.initial.second l.initial.next l.second l.next l.i
