-- `span_of` judges the records while it counts them: what is counted and what is left to count are all of lower numbers.
use Rattle.packet.specs.Packet.{records_of}
use Rattle.judging.proofs.Places.{Spanning}
use Rattle.judging.proofs.span_of.Given as goal

abbrev pub invariant-loop-record : goal.invariant-loop-record
invariant-loop-record l = Spanning (records_of l.fn.packet) l.number l.low l.high l.record-index l.before
