-- `dot_in`: the first dot of the text is the first of what is left, counted from there.
use native.Mathlib.Omega.{arith}
use Rattle.code_text.proofs.CodeText.{dot_here, dot_past, dot_end}
use Rattle.code_text.proofs.dot_in.Goals as goal

pub returns-then-text-i-eq46 : goal.returns-then-text-i-eq46
returns-then-text-i-eq46 c = omega (arith, dot_here c.args.text.now c.loop-i.i c.loop-i-test.true c.if-text-i-eq46.true)

pub loop-i-preserved : goal.loop-i-preserved
loop-i-preserved c = omega (arith, dot_past c.args.text.now c.loop-i.i c.loop-i-test.true c.if-text-i-eq46.false)

pub returns : goal.returns
returns c = omega (arith, dot_end c.args.text.now c.loop-i.i c.loop-i-test.false)
