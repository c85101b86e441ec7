-- `homeless` judges one home after the other: before an index, what is left decides.
use Prim.Native.Nat.{◌*◌}
use mathlib.Core.Path.{◌≡◌}
use lib.ListN.{drop}
use Rattle.splicing.specs.Splice.{homeless}
use Rattle.splicing.proofs.homeless.Given as goal

abbrev pub invariant-loop-i : goal.invariant-loop-i
invariant-loop-i l = homeless l.ranges ≡ homeless (drop (l.i * 3) l.ranges)
