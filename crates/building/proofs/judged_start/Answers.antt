-- `judged_start`: the tests in their order.
use borrow.Author.Tests.{lt-ltb, le-ltb}
use Rattle.building.specs.Building.{start_judged}
use Rattle.building.proofs.judged_start.Goals as goal

pub returns-then-header-gt3 : goal.returns-then-header-gt3
unfolding start_judged
returns-then-header-gt3 c = rw (lt-ltb _ _ c.if-header-gt3.true)

pub returns-then-token : goal.returns-then-token
unfolding start_judged
returns-then-token c = rw (le-ltb _ _ c.if-header-gt3.false, lt-ltb _ _ c.if-token.true)

pub returns : goal.returns
unfolding start_judged
returns c = rw (le-ltb _ _ c.if-header-gt3.false, le-ltb _ _ c.if-token.false) c.judged_strictly.ensures
