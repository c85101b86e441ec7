-- `put_values` meets its contract: once the text of the values that are left is put, all is.
use mathlib.Core.Path.{ap, subst}
use native.Mathlib.Omega.{arith}
use lib.ListN.{length-take}
use Rattle.rfc.specs.Target.{behind}
use Rattle.placing.proofs.Puts.{Putting, putting_turn, putting_end}
use Rattle.packet.specs.Packet.{held, records_of}
use Rattle.packet.proofs.Records.{none_left}
use Rattle.percent.specs.Step.{kind_of}
use Rattle.target_writing.proofs.Texts.{values_from, value_at, value_not}
use Rattle.target_writing.proofs.put_values.Goals as goal

pub loop-i-preserved : goal.loop-i-preserved
loop-i-preserved c =
    let a = c.args in
    let e = value_at (held a.stores) a.number a.packet.options a.packet.count c.loop-i.i (omega (arith, c.loop-i.invariant.0, c.loop-i.invariant.1.0, length-take a.packet.count a.packet.options)) c.if-option-number.false in
    (c.loop-i.invariant.0, (c.loop-i.invariant.1.0, rw c.separator-mark.ensures (putting_turn c.loop-i.invariant.1.1 (ap (behind (kind_of a.kind) c.loop-i.mark) e) (rw c.value-value.ensures.result_value at c.put_part-next.ensures))))

pub loop-i-preserved-then-option-number : goal.loop-i-preserved-then-option-number
loop-i-preserved-then-option-number c =
    let a = c.args in
    let e = value_not (held a.stores) a.number a.packet.options a.packet.count c.loop-i.i (omega (arith, c.loop-i.invariant.0, c.loop-i.invariant.1.0, length-take a.packet.count a.packet.options)) c.if-option-number.true in
    (c.loop-i.invariant.0, (c.loop-i.invariant.1.0, subst (Putting _ _ _ _ _) (ap (behind (kind_of a.kind) c.loop-i.mark) e) c.loop-i.invariant.1.1))

pub returns : goal.returns
returns c =
    let a = c.args in
    putting_end c.loop-i.invariant.1.1 (ap (λ rs. behind (kind_of a.kind) c.loop-i.mark (values_from (held a.stores) a.number rs)) (none_left (records_of a.packet) c.loop-i.i (omega (arith, length-take a.packet.count a.packet.options))))
