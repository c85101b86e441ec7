-- `walked`: the walk of reading, which notes each place that it passes.
use Prim.Native.Nat.{◌-◌}
use mathlib.Core.Path.{◌≡◌}
use lib.ListN.{length}
use Rattle.scanning.proofs.Judged.{Going}
use Rattle.scanning.proofs.walked.Given as goal

abbrev pub invariant-loop-marked : goal.invariant-loop-marked
invariant-loop-marked l = Going l.most l.buf l.start l.places l.count l.number l.idx × (length l.places ≡ length l.initial.places)

abbrev pub decreases-loop-marked : goal.decreases-loop-marked
decreases-loop-marked l = 128 - l.count
