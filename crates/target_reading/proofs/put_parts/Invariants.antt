-- `put_parts` meets its contract: what is owed is what the parts from here on say (`Filling`).
use Prim.Native.Nat.{◌+◌, ◌-◌, ◌≤◌}
use lib.ListN.{length}
use Rattle.packet.specs.Limits.{max_store}
use Rattle.percent.specs.Step.{kind_of}
use Rattle.target_reading.specs.Placing.{values_in}
use Rattle.target_reading.proofs.Placing.{Filling}
use Rattle.target_reading.proofs.put_parts.Given as goal

abbrev pub invariant-loop-kind : goal.invariant-loop-kind
invariant-loop-kind l =
    (length l.initial.edits ≤ max_store) × Filling (kind_of l.kind) l.number l.separator l.text (values_in (kind_of l.kind) l.separator l.text l.initial.count) l.initial.edits (record { options = l.initial.options; count = l.initial.count; at = l.initial.at }) l.edits l.options l.count l.at l.from

abbrev pub decreases-loop-kind : goal.decreases-loop-kind
decreases-loop-kind l = length l.text + 1 - l.from
