-- `put_options`: what is left is put, and then all is.
use Prim.Native.Nat.{◌+◌, ◌*◌, ◌≤◌}
use mathlib.Core.Path.{◌≡◌}
use lib.ListN.{length, get_or}
use Rattle.packet.specs.Packet.{held, records_of}
use Rattle.unflat.specs.Unflat.{packet_in}
use Rattle.flat_writing.proofs.Options.{Going}
use Rattle.flat_writing.proofs.put_options.Given as goal

abbrev pub invariant-loop-i : goal.invariant-loop-i
invariant-loop-i l = ((l.count ≤ 128) × (11 + 4 * l.count ≤ length l.numbers) × (l.count ≡ get_or l.numbers 10 0)) × Going (held l.stores) (records_of (packet_in l.numbers)) l.initial.out l.from l.end l.out l.before l.next l.i
