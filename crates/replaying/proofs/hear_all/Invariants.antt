-- `hear_all`: what was listed, and what the calls that are left will leave, make the whole.
use Rattle.replaying.proofs.Walk.{ReplayWalk}
use Rattle.replaying.specs.Turns.{calls}
use Prim.Native.Nat.{◌-◌}
use lib.ListN.{length}
use Rattle.replaying.proofs.hear_all.Given as goal

abbrev pub invariant-loop-at : goal.invariant-loop-at
invariant-loop-at l = ReplayWalk l.form l.trace (calls l.form l.trace (length l.initial.listing) l.initial.table) l.initial.table l.initial.listing l.table l.listing l.before l.at l.count

abbrev pub decreases-loop-at : goal.decreases-loop-at
decreases-loop-at l = length l.trace - l.at
