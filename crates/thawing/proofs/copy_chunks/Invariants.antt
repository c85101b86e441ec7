-- `copy_chunks`: once the bytes that are left are put, all are, and their chunks stand in the stream.
use Prim.Native.Nat.{◌-◌}
use lib.ListN.{length}
use Rattle.stream.specs.Stream.{full}
use Rattle.stream.specs.Messages.{body_at}
use Rattle.thawing.specs.Message.{body_bytes}
use Rattle.thawing.proofs.Copy.{CopyWalk}
use Rattle.thawing.proofs.copy_chunks.Given as goal

abbrev pub invariant-loop-done : goal.invariant-loop-done
invariant-loop-done l = CopyWalk l.form l.stream (body_bytes (body_at l.form l.stream (length l.stream) (full l.form) l.from)) l.initial.out l.to l.out l.at l.done l.next

abbrev pub decreases-loop-done : goal.decreases-loop-done
decreases-loop-done l = l.len - l.done
