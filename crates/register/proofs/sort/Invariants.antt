-- `sort`: a walk over the records; what is left of them has the answer for all.
use Rattle.packet.specs.Packet.{records_of}
use Rattle.register.proofs.Walk.{Walk}
use Rattle.register.proofs.sort.Given as goal

abbrev pub invariant-loop-i : goal.invariant-loop-i
invariant-loop-i l = Walk (records_of l.fn.packet) l.kept l.last l.i
