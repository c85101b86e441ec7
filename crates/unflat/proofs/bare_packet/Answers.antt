-- `bare_packet`: with no records, the array holds the empty record alone.
use Prim.Native.Nat.{◌-◌}
use mathlib.Core.List.{◌++◌}
use mathlib.Core.Path.{sym}
use native.Mathlib.Omega.{arith}
use lib.ListN.{replicate}
use Rattle.packet.specs.Limits.{max_options}
use Rattle.packet.specs.Packet.{none}
use Rattle.unflat.specs.Unflat.{packet_in, records_in}
use Rattle.unflat.proofs.Unflat.{good}
use Rattle.unflat.proofs.bare_packet.Goals as goal

pub header_in-requires : goal.header_in-requires
header_in-requires c = let g = good _ c.requires.0 in (g.head, g.fields)

pub range_in-requires : goal.range_in-requires
range_in-requires c = omega (arith, (good _ c.requires.0).head)

pub range_in-requires-2 : goal.range_in-requires-2
range_in-requires-2 c = omega (arith, (good _ c.requires.0).head)

pub returns : goal.returns
unfolding packet_in
returns c =
    let l = c.args.numbers.now in
    let none-there = sym c.requires.1 in
    λ j.
    record {
      header = c.header_in.ensures j;
      token = c.range_in.ensures j;
      count = none-there j;
      options = records_in l (none-there j) ++ replicate (max_options - none-there j) none;
      payload = c.range_in-2.ensures j;
    }
