-- `list_messages`: once the messages that are left are listed and copied, all are.
use Prim.Native.Nat.{◌-◌}
use lib.ListN.{length}
use Rattle.stream.specs.Messages.{thawed}
use Rattle.thawing.specs.Thawing.{messages_in}
use Rattle.thawing.proofs.Listing.{ListWalk}
use Rattle.thawing.proofs.list_messages.Given as goal

abbrev pub invariant-loop-at : goal.invariant-loop-at
invariant-loop-at l = ListWalk l.form l.stream (messages_in (thawed l.form l.stream)) l.initial.list l.initial.out l.list l.out l.at l.place l.to

abbrev pub decreases-loop-at : goal.decreases-loop-at
decreases-loop-at l = length l.stream - l.at
