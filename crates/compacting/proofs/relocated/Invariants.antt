-- `relocated`: one walk relays the records.
use Prim.Native.Nat.{◌+◌, ◌≤◌}
use mathlib.Core.Path.{◌≡◌}
use lib.ListN.{length, take}
use Rattle.packet.specs.Limits.{max_options}
use Rattle.packet.specs.Limits.{max_store}
use Rattle.compacting.specs.Compacting.{values_length}
use Rattle.compacting.proofs.Walks.{Relaying}
use Rattle.compacting.proofs.relocated.Given as goal

abbrev pub invariant-loop-i : goal.invariant-loop-i
invariant-loop-i l = ((l.count ≤ max_options) × (length l.options ≡ max_options)) × ((l.token.len + (values_length (take l.count l.options) + l.payload.len) ≤ max_store) × Relaying l.token.len (take l.count l.options) l.records l.next l.i)
