-- `text_length` meets its contract: what is counted and the text of what is left are the whole (`Counting`).
use Prim.Native.Nat.{◌≤◌}
use native.Mathlib.Omega.{arith}
use lib.ListN.{length, get_or, length-take}
use Rattle.packet.specs.Limits.{max_store}
use Rattle.packet.specs.Packet.{held, none}
use Rattle.percent.specs.Step.{kind_of}
use Rattle.percent.proofs.Coding.{others_small}
use Rattle.target_writing.proofs.Texts.{value_short, counting_value}
use Rattle.target_writing.proofs.text_length.Goals.{After-coded_count}
use Rattle.target_writing.proofs.text_length.Goals as goal

-- A value's length, and how many of its bytes are coded.
short : (c : After-coded_count) → length c.value-value.result.now ≤ max_store
short c =
    let a = c.args in
    rw c.value-value.ensures.result_value (value_short (held a.stores) (get_or a.packet.options c.loop-i.i none) c.requires.short)

few : (c : After-coded_count) → c.coded_count.result ≤ max_store
few c = omega (arith, short c, c.coded_count.ensures, others_small (kind_of c.args.kind) c.value-value.result.now)

pub overflow_mul-total : goal.overflow_mul-total
overflow_mul-total c = omega (arith, few c)

pub overflow_add-total-in-loop-i-2 : goal.overflow_add-total-in-loop-i-2
overflow_add-total-in-loop-i-2 c = omega (arith, few c, short c, c.loop-i.invariant.1.0, c.loop-i.invariant.1.1.small)

pub loop-i-preserved : goal.loop-i-preserved
loop-i-preserved c =
    let a = c.args in
    (c.loop-i.invariant.0, (c.loop-i.invariant.1.0, rw (c.coded_count.ensures, c.value-value.ensures.result_value) (counting_value _ _ _ a.packet.options a.packet.count _ _ c.loop-i.invariant.1.1 (omega (arith, c.loop-i.invariant.0, c.loop-i.invariant.1.0, length-take a.packet.count a.packet.options)) c.requires.short c.if-option-number.false)))
