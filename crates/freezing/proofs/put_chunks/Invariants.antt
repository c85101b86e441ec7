-- `put_chunks`: one chunk more with each turn, until none is left.
use Prim.Native.Nat.{◌-◌}
use lib.ListN.{length}
use Rattle.freezing.proofs.Chunks.{ChunkWalk}
use Rattle.freezing.proofs.put_chunks.Given as goal

abbrev pub invariant-loop-i : goal.invariant-loop-i
invariant-loop-i l = ChunkWalk l.form l.initial.out l.at l.datagram l.out l.next l.i

abbrev pub decreases-loop-i : goal.decreases-loop-i
decreases-loop-i l = length l.datagram - l.i
