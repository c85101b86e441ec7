-- `judge`: one walk over the records judges and counts them.
use Prim.Native.Nat.{◌+◌, ◌*◌, ◌≤◌}
use mathlib.Core.Path.{◌≡◌}
use mathlib.Core.Bool.{false}
use lib.ListN.{length, get_or}
use Rattle.packet.specs.Packet.{records_of}
use Rattle.judging.proofs.Judging.{Judging}
use Rattle.unflat.specs.Unflat.{bad_numbers, packet_in}
use Rattle.flat_measuring.proofs.judge.Given as goal

abbrev pub invariant-loop-i : goal.invariant-loop-i
invariant-loop-i l = ((l.count ≤ 128) × (11 + 4 * l.count ≤ length l.numbers) × (l.count ≡ get_or l.numbers 10 0)) × (bad_numbers l.numbers l.i ≡ false) × Judging l.lengths (records_of (packet_in l.numbers)) l.before l.size l.i
