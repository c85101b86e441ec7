-- `put_values` meets its contract: once the text of the values that are left is put, all is.
use Prim.Native.Nat.{◌≤◌}
use mathlib.Core.Path.{◌≡◌}
use lib.ListN.{length, take, drop}
use Rattle.rfc.specs.Target.{behind}
use Rattle.placing.proofs.Puts.{Putting}
use Rattle.packet.specs.Limits.{max_options}
use Rattle.packet.specs.Packet.{held}
use Rattle.percent.specs.Step.{kind_of}
use Rattle.target_writing.proofs.Texts.{values_from}
use Rattle.target_writing.proofs.put_values.Given as goal

abbrev pub invariant-loop-i : goal.invariant-loop-i
invariant-loop-i l =
    (length l.options ≡ max_options) × ((l.count ≤ max_options) × Putting l.initial.out l.at (behind (kind_of l.kind) l.first (values_from (held l.stores) l.number (take l.count l.options))) l.out l.next (behind (kind_of l.kind) l.mark (values_from (held l.stores) l.number (drop l.i (take l.count l.options)))))
