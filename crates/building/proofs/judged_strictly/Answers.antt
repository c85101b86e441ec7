-- `judged_strictly`: the tests in their order, which plain passes over.
use mathlib.Core.Path.{sym, ◌∙◌}
use borrow.Author.Tests.{lt-ltb, le-ltb, eq-eqb, ne_eqb}
use Rattle.building.specs.Building.{strict_start}
use Rattle.building.proofs.judged_strictly.Goals as goal

pub returns-then-not-strict : goal.returns-then-not-strict
unfolding strict_start
returns-then-not-strict c = rw (c.if-not-strict.true)

pub returns-then-header-ne1 : goal.returns-then-header-ne1
unfolding strict_start
returns-then-header-ne1 c = rw (c.if-not-strict.false, ne_eqb _ _ c.if-header-ne1.true)

pub returns-then-token-gt8 : goal.returns-then-token-gt8
unfolding strict_start
returns-then-token-gt8 c = rw (c.if-not-strict.false, eq-eqb _ _ c.if-header-ne1.false, lt-ltb _ _ c.if-token-gt8.true)

pub returns-then-token_carried : goal.returns-then-token_carried
unfolding strict_start
returns-then-token_carried c = rw (c.if-not-strict.false, eq-eqb _ _ c.if-header-ne1.false, le-ltb _ _ c.if-token-gt8.false, sym c.token_carried.ensures ∙ c.if-token_carried.true)

pub returns : goal.returns
unfolding strict_start
returns c = rw (c.if-not-strict.false, eq-eqb _ _ c.if-header-ne1.false, le-ltb _ _ c.if-token-gt8.false, sym c.token_carried.ensures ∙ c.if-token_carried.false)
