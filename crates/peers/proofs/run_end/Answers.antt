-- `run_end` is safe and ends.
use Prim.Native.Nat.{◌-◌}
use mathlib.Core.Path.{◌≡◌, sym, ◌∙◌}
use native.Mathlib.Omega.{arith}
use Rattle.peers.proofs.Groups.{run_more, run_stop, run_done}
use Rattle.peers.proofs.run_end.Goals as goal

pub returns-then-group_of-ne0 : goal.returns-then-group_of-ne0
returns-then-group_of-ne0 c =
    (sym (c.loop-i.invariant.1 ∙ run_stop _ c.loop-i.i (omega arith) (rw c.group_of.ensures at c.if-group_of-ne0.true)), omega arith)

pub loop-i-preserved : goal.loop-i-preserved
loop-i-preserved c =
    (omega arith, c.loop-i.invariant.1 ∙ run_more _ c.loop-i.i (omega arith) (rw c.group_of.ensures at c.if-group_of-ne0.false))

pub returns : goal.returns
returns c =
    let end : 8 ≡ c.loop-i.i = omega arith in
    (end ∙ sym (c.loop-i.invariant.1 ∙ run_done _ c.loop-i.i (omega arith)), omega arith)
