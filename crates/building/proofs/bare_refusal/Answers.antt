-- `bare_refusal`: the tests in their order.
use borrow.Author.Tests.{lt-ltb, le-ltb}
use Rattle.building.specs.Building.{bare_refusal}
use Rattle.building.proofs.bare_refusal.Goals as goal

pub returns-then-number-before : goal.returns-then-number-before
unfolding bare_refusal
returns-then-number-before c = rw (lt-ltb _ _ c.if-number-before.true)

pub returns-then-len : goal.returns-then-len
unfolding bare_refusal
returns-then-len c = rw (le-ltb _ _ c.if-number-before.false, lt-ltb _ _ c.if-len.true)

pub returns : goal.returns
unfolding bare_refusal
returns c = rw (le-ltb _ _ c.if-number-before.false, le-ltb _ _ c.if-len.false)
