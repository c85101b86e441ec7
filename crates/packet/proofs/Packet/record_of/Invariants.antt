-- `Packet::record_of`: the record that is looked for is one of those left, so many places on.
use Prim.Native.Nat.{◌≤◌}
use mathlib.Core.Path.{◌≡◌}
use lib.ListN.{drop, get_or}
use Rattle.packet.specs.Packet.{none, records_of, of_number}
use Rattle.packet.proofs.Packet.record_of.Given as goal

abbrev pub invariant-loop-record : goal.invariant-loop-record
invariant-loop-record l =
    record {
      few : l.left ≤ l.n;
      rest : get_or (of_number l.number (drop l.record-index (records_of l.fn.self))) l.left none
          ≡ get_or (of_number l.number (records_of l.fn.self)) l.n none;
    }
