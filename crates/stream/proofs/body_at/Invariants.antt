-- `body_at`: the walk over the chunks keeps the whole answer.
use Prim.Native.Nat.{◌-◌}
use lib.ListN.{length}
use Rattle.stream.proofs.Walk.{BodyWalk}
use Rattle.stream.proofs.body_at.Given as goal

abbrev pub invariant-loop-form : goal.invariant-loop-form
invariant-loop-form l = BodyWalk l.form l.stream l.from l.before l.len l.at

abbrev pub decreases-loop-form : goal.decreases-loop-form
decreases-loop-form l = length l.stream - l.at
