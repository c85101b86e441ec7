-- `run_end` is safe and ends.
use Prim.Native.Nat.{◌-◌, ◌≤◌}
use mathlib.Core.Path.{◌≡◌}
use Rattle.peers.specs.Text.{run_end}
use Rattle.peers.proofs.run_end.Given as goal

abbrev pub invariant-loop-i : goal.invariant-loop-i
invariant-loop-i l = ((l.first ≤ l.i) × (l.i ≤ 8)) × (run_end l.peer l.first ≡ run_end l.peer l.i)
