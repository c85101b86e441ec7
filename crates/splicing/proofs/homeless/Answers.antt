-- `homeless` judges one home after the other: before an index, what is left decides.
use mathlib.Core.Path.{refl, sym, ◌∙◌}
use native.Mathlib.Omega.{arith}
use borrow.Author.Tests.{lt-ltb, le-ltb}
use Rattle.splicing.proofs.Homes.{homeless_from, homeless_past}
use Rattle.splicing.proofs.homeless.Goals as goal

pub returns-then-ranges-i-gt1 : goal.returns-then-ranges-i-gt1
returns-then-ranges-i-gt1 c =
    let s = c.args.ranges.now in
    sym (c.loop-i.invariant ∙ (homeless_from s c.loop-i.i (omega arith) ∙ rw (lt-ltb _ _ c.if-ranges-i-gt1.true) refl))

pub loop-i-preserved : goal.loop-i-preserved
loop-i-preserved c =
    let s = c.args.ranges.now in
    c.loop-i.invariant ∙ (homeless_from s c.loop-i.i (omega arith) ∙ rw (le-ltb _ _ c.if-ranges-i-gt1.false) refl)

pub returns : goal.returns
returns c =
    let s = c.args.ranges.now in
    sym (c.loop-i.invariant ∙ homeless_past s c.loop-i.i (omega arith))
