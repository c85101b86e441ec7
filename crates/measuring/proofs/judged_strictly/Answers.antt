-- `judged_strictly`: the tests in their order, which plain passes over.
use mathlib.Core.Path.{sym, ◌∙◌}
use borrow.Author.Tests.{lt-ltb, le-ltb, eq-eqb, ne_eqb}
use Rattle.measuring.specs.Measuring.{strictly}
use Rattle.measuring.proofs.judged_strictly.Goals as goal

pub returns-then-not-strict : goal.returns-then-not-strict
unfolding strictly
returns-then-not-strict c = rw (c.if-not-strict.true)

pub returns-then-packet-ne1 : goal.returns-then-packet-ne1
unfolding strictly
returns-then-packet-ne1 c = rw (c.if-not-strict.false, ne_eqb _ _ c.if-packet-ne1.true)

pub returns-then-packet-gt8 : goal.returns-then-packet-gt8
unfolding strictly
returns-then-packet-gt8 c = rw (c.if-not-strict.false, eq-eqb _ _ c.if-packet-ne1.false, lt-ltb _ _ c.if-packet-gt8.true)

pub returns-then-empty_carries : goal.returns-then-empty_carries
unfolding strictly
returns-then-empty_carries c = rw (c.if-not-strict.false, eq-eqb _ _ c.if-packet-ne1.false, le-ltb _ _ c.if-packet-gt8.false, sym c.empty_carries.ensures ∙ c.if-empty_carries.true)

pub returns : goal.returns
unfolding strictly
returns c = rw (c.if-not-strict.false, eq-eqb _ _ c.if-packet-ne1.false, le-ltb _ _ c.if-packet-gt8.false, sym c.empty_carries.ensures ∙ c.if-empty_carries.false)
