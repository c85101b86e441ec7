-- `all_are` passes unit by unit: those that are left decide.
use Prim.Native.Nat.{◌-◌}
use mathlib.Core.Path.{◌≡◌}
use Rattle.ground.specs.Part.{part}
use Rattle.image.specs.Image.{alike}
use Rattle.image.proofs.all_are.Given as goal

abbrev pub invariant-loop-unit : goal.invariant-loop-unit
invariant-loop-unit l = alike l.missing (part l.held l.from (l.to - l.from)) ≡ alike l.missing (part l.held l.unit (l.to - l.unit))
