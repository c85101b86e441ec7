-- `bad_numbers`: the records passed are good.
use mathlib.Core.Path.{◌≡◌}
use mathlib.Core.Bool.{false}
use Rattle.unflat.specs.Unflat.{bad_numbers}
use Rattle.unflat.proofs.bad_numbers.Given as goal

abbrev pub invariant-loop-i : goal.invariant-loop-i
invariant-loop-i l = bad_numbers l.numbers l.i ≡ false
