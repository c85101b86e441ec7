-- `relocated`: one walk relays the records.
use native.Mathlib.Omega.{arith}
use lib.ListN.{length-take}
use Rattle.packet.proofs.Records.{left}
use Rattle.compacting.proofs.Walks.{relay_turn}
use Rattle.compacting.proofs.relocated.Goals as goal

pub loop-i-preserved : goal.loop-i-preserved
loop-i-preserved c =
    let p = c.args.packet in
    (c.loop-i.invariant.0, (c.loop-i.invariant.1.0, relay_turn _ _ _ _ _ c.loop-i.invariant.1.1 _ (left p.options p.count c.loop-i.i (omega (arith, length-take p.count p.options))) (omega arith)))
