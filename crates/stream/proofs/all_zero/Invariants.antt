-- `all_zero`: what is left is as zero as the whole.
use Prim.Native.Nat.{◌+◌, ◌-◌}
use mathlib.Core.Path.{◌≡◌}
use Rattle.ground.specs.Part.{part}
use Rattle.stream.specs.Messages.{zeros}
use Rattle.stream.proofs.all_zero.Given as goal

abbrev pub invariant-loop-i : goal.invariant-loop-i
invariant-loop-i l = zeros (part l.stream l.from l.n) ≡ zeros (part l.stream (l.from + l.i) (l.n - l.i))
