-- `filled` fills the places one by one with the splice's own records.
use mathlib.Core.List.{map}
use Rattle.packet.specs.Packet.{records_of}
use Rattle.splicing.specs.Splice.{record_of, ranges_in, spliced}
use Rattle.splicing.proofs.Copied.{Filling}
use Rattle.splicing.proofs.filled.Given as goal

abbrev pub invariant-loop-i : goal.invariant-loop-i
invariant-loop-i l = Filling (spliced l.low l.high (map (record_of l.number) (ranges_in l.ranges)) (records_of l.packet)) l.records l.count l.i
