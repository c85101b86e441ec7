-- `put_part` meets its contract: what was put and what is left to decode are the whole (`Decoding`).
use Prim.Native.Nat.{◌-◌}
use lib.ListN.{length}
use Rattle.percent.specs.Step.{kind_of}
use Rattle.target_reading.specs.Placing.{bytes_of}
use Rattle.target_reading.proofs.Placing.{Decoding}
use Rattle.target_reading.proofs.put_part.Given as goal

abbrev pub invariant-loop-coded : goal.invariant-loop-coded
invariant-loop-coded l = Decoding (kind_of l.kind) l.part (bytes_of (kind_of l.kind) l.part) l.initial.edits l.at l.edits l.next l.i

abbrev pub decreases-loop-coded : goal.decreases-loop-coded
decreases-loop-coded l = length l.part - l.i
