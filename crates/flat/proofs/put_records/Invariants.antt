-- `put_records`: once the records that are left are put, all are.
use Prim.Native.Nat.{◌≤◌}
use mathlib.Core.Path.{◌≡◌}
use lib.ListN.{length}
use Rattle.packet.specs.Packet.{records_of}
use Rattle.flat.proofs.Flat.{Putting}
use Rattle.flat.proofs.put_records.Given as goal

abbrev pub invariant-loop-i : goal.invariant-loop-i
invariant-loop-i l = (l.count ≤ 128) × ((l.count ≡ length (records_of l.packet)) × Putting l.initial.out (records_of l.packet) l.out l.i)
