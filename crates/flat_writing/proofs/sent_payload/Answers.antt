-- `sent_payload`: none that is dropped, and else the range that the numbers name.
use mathlib.Core.Path.{sym, ◌∙◌}
use native.Mathlib.Omega.{arith}
use lib.ListN.{length}
use borrow.Author.Tests.{le-leb}
use Rattle.packet.specs.Packet.{bytes_in}
use Rattle.flat_measuring.proofs.Places.{places}
use Rattle.flat_writing.proofs.sent_payload.Goals as goal

pub bounds-numbers-2 : goal.bounds-numbers-2
bounds-numbers-2 c = omega (arith, (places _ _ c.requires).head)

pub returns-then-drops : goal.returns-then-drops
unfolding bytes_in
returns-then-drops c = rw (sym c.drops.ensures ∙ c.if-drops.true, le-leb 0 (length c.args.stores.datagram.now) (omega arith))

pub bounds-numbers-7 : goal.bounds-numbers-7
bounds-numbers-7 c = omega (arith, (places _ _ c.requires).head)

pub bounds-numbers-8 : goal.bounds-numbers-8
bounds-numbers-8 c = omega (arith, (places _ _ c.requires).head)

pub bounds-numbers-9 : goal.bounds-numbers-9
bounds-numbers-9 c = omega (arith, (places _ _ c.requires).head)

pub part-requires : goal.part-requires
part-requires c = (places _ _ c.requires).payload
