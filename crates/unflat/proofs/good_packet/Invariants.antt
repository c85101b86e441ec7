-- `good_packet`: the records passed stand in the array's first places.
use Prim.Native.Nat.{◌≤◌}
use mathlib.Core.Path.{◌≡◌}
use Rattle.unflat.proofs.Unflat.{up_to}
use Rattle.unflat.proofs.good_packet.Given as goal

abbrev pub invariant-loop-i : goal.invariant-loop-i
invariant-loop-i l = (l.count ≤ 128) × (l.options ≡ up_to l.numbers l.i)
