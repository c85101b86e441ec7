-- `judge`: one walk over the records judges and counts them.
use Rattle.packet.specs.Packet.{records_of}
use Rattle.judging.proofs.Judging.{Judging}
use Rattle.judging.proofs.judge.Given as goal

abbrev pub invariant-loop-option : goal.invariant-loop-option
invariant-loop-option l = Judging l.lengths (records_of l.fn.packet) l.before l.size l.option-index
