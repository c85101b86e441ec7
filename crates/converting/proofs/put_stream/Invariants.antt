-- `put_stream`: once the messages that are left are put, all are.
use Prim.Native.Nat.{◌-◌}
use lib.ListN.{length}
use Rattle.stream.specs.Messages.{thawed}
use Rattle.thawing.specs.Thawing.{messages_in}
use Rattle.converting.proofs.Putting.{PutWalk}
use Rattle.converting.proofs.put_stream.Given as goal

abbrev pub invariant-loop-at : goal.invariant-loop-at
invariant-loop-at l = PutWalk l.from l.to l.stream (messages_in (thawed l.from l.stream)) l.initial.out l.out l.datagram l.at l.place

abbrev pub decreases-loop-at : goal.decreases-loop-at
decreases-loop-at l = length l.stream - l.at
