-- `longest` is safe and ends.
use Prim.Native.Nat.{◌-◌, ◌≤◌}
use mathlib.Core.Path.{◌≡◌}
use Rattle.peers.specs.Text.{longest, longest_in}
use Rattle.peers.proofs.longest.Given as goal

abbrev pub invariant-loop-i : goal.invariant-loop-i
invariant-loop-i l = ((l.i ≤ 8) × (l.start ≤ 8)) × (longest l.peer ≡ longest_in l.peer (8 - l.i) l.i l.start l.size)
