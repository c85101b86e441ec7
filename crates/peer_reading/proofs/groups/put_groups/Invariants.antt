-- `put_groups`: once the bytes of what is left are put, all are.
use lib.ListN.{drop}
use Rattle.placing.proofs.Puts.{Putting}
use Rattle.peer_reading.specs.Reading.{group_bytes}
use Rattle.peer_reading.proofs.groups.put_groups.Given as goal

abbrev pub invariant-loop-byte : goal.invariant-loop-byte
invariant-loop-byte l = Putting l.initial.out l.at (group_bytes 0 l.text) l.out l.next (group_bytes l.value (drop l.byte-index l.text))
