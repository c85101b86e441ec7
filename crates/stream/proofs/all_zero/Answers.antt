-- `all_zero`: what is left is as zero as the whole.
use mathlib.Core.Path.{sym, ◌∙◌}
use native.Mathlib.Omega.{arith}
use Rattle.stream.proofs.Heads.{zeros_turn, zeros_stop}
use Rattle.stream.proofs.all_zero.Goals as goal

pub returns-then-stream-from-ne0 : goal.returns-then-stream-from-ne0
returns-then-stream-from-ne0 c =
    let a = c.args in
    sym (c.loop-i.invariant ∙ zeros_stop a.stream.now a.from a.n c.loop-i.i (omega arith) (omega arith) c.if-stream-from-ne0.true)

pub loop-i-preserved : goal.loop-i-preserved
loop-i-preserved c =
    let a = c.args in
    c.loop-i.invariant ∙ zeros_turn a.stream.now a.from a.n c.loop-i.i (omega arith) (omega arith) c.if-stream-from-ne0.false
