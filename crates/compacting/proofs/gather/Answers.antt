-- `gather`: token, values and payload are put one after the other.
use native.Mathlib.Omega.{arith}
use lib.ListN.{length-take}
use Rattle.packet.proofs.Records.{left, none_left}
use Rattle.placing.proofs.Puts.{puts_puts}
use Rattle.packet.specs.Packet.{records_of}
use Rattle.compacting.proofs.Walks.{gather_turn, gather_end}
use Rattle.compacting.proofs.gather.Goals as goal

pub loop-i-preserved : goal.loop-i-preserved
loop-i-preserved c =
    let p = c.args.packet in
    (c.loop-i.invariant.0, gather_turn _ _ _ _ _ _ _ c.loop-i.invariant.1 _ (left p.options p.count c.loop-i.i (omega (arith, length-take p.count p.options))) _ _ (rw c.value.ensures.result_value at c.put_bytes-next-in-loop-i.ensures))

pub returns : goal.returns
returns c =
    let p = c.args.packet in
    puts_puts (rw c.part.ensures.result_value at c.put_bytes-next.ensures)
    (puts_puts (gather_end _ _ _ _ _ _ _ c.loop-i.invariant.1 (none_left (records_of p) c.loop-i.i (omega (arith, length-take p.count p.options))))
    (rw c.part-2.ensures.result_value at c.put_bytes.ensures))
