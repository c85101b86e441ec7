-- `put_many`: the bytes before a place stand in the output, one piece more with each turn.
use Prim.Native.Nat.{◌≤◌, ◌-◌}
use mathlib.Core.Path.{◌≡◌}
use lib.ListN.{length, take}
use lib.Seq.{sets}
use Rattle.placing.proofs.put_many.Given as goal

abbrev pub invariant-loop-i : goal.invariant-loop-i
invariant-loop-i l = (l.i ≤ l.all) × (length l.out ≡ length l.initial.out) × (l.out ≡ sets l.initial.out l.at (take l.i l.bytes))

abbrev pub decreases-loop-i : goal.decreases-loop-i
decreases-loop-i l = l.all - l.i
