-- `row_of` gives the row of a number: what is left of the rows has the answer for all of them.
use mathlib.Core.Path.{sym, ◌∙◌}
use native.Mathlib.Omega.{arith}
use Rattle.register.specs.Register.{register}
use Rattle.register.proofs.Rows.{row_here, row_on, row_past}
use Rattle.register.proofs.row.row_of.Goals as goal

pub returns-then-row-number : goal.returns-then-row-number
unfolding register
returns-then-row-number c =
    let l = c.loop-row in
    sym (l.invariant ∙ row_here c.args.number l.row-index register (omega arith) c.if-row-number.true)

pub loop-row-preserved : goal.loop-row-preserved
unfolding register
loop-row-preserved c =
    let l = c.loop-row in
    l.invariant ∙ row_on c.args.number l.row-index register (omega arith) c.if-row-number.false

pub returns : goal.returns
unfolding register
returns c =
    let l = c.loop-row in
    sym (l.invariant ∙ row_past c.args.number l.row-index register (omega arith))
