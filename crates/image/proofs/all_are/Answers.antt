-- `all_are` passes unit by unit: those that are left decide.
use mathlib.Core.Path.{sym, ◌∙◌}
use native.Mathlib.Omega.{arith}
use borrow.Author.Tests.{not-true, not-false}
use Rattle.image.proofs.Spans.{none_left, other_left, same_left}
use Rattle.image.proofs.all_are.Goals as goal

pub returns-then-held-unit : goal.returns-then-held-unit
returns-then-held-unit c =
    let l = c.loop-unit in
    let a = c.args in
    sym (l.invariant ∙ other_left a.missing a.held.now l.unit a.to (omega arith) (omega arith) (not-true _ c.if-held-unit.true))

pub loop-unit-preserved : goal.loop-unit-preserved
loop-unit-preserved c =
    let l = c.loop-unit in
    let a = c.args in
    l.invariant ∙ same_left a.missing a.held.now l.unit a.to (omega arith) (omega arith) (not-false _ c.if-held-unit.false)

pub returns : goal.returns
returns c =
    let l = c.loop-unit in
    let a = c.args in
    sym (l.invariant ∙ none_left a.missing a.held.now l.unit a.to (omega arith))
