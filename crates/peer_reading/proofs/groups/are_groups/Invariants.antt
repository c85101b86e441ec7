-- `are_groups`: the whole is groups exactly when what is left is (`Judging`).
use Rattle.peer_reading.proofs.Grouping.{Judging}
use Rattle.peer_reading.proofs.groups.are_groups.Given as goal

abbrev pub invariant-loop-byte : goal.invariant-loop-byte
invariant-loop-byte l = Judging l.text l.digits l.byte-index
