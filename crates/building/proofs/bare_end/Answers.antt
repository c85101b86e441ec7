-- `bare_end`: the tests in their order.
use mathlib.Core.Path.{sym, ◌∙◌}
use borrow.Author.Tests.{lt-ltb, le-ltb}
use Rattle.building.specs.Building.{bare_end}
use Rattle.building.proofs.bare_end.Goals as goal

pub returns-then-is_bare : goal.returns-then-is_bare
unfolding bare_end
returns-then-is_bare c = rw (sym c.is_bare.ensures ∙ c.if-is_bare.true)

pub returns-then-room-at : goal.returns-then-room-at
unfolding bare_end
returns-then-room-at c = rw (sym c.is_bare.ensures ∙ c.if-is_bare.false, lt-ltb _ _ c.if-room-at.true)

pub returns : goal.returns
unfolding bare_end
returns c = rw (sym c.is_bare.ensures ∙ c.if-is_bare.false, le-ltb _ _ c.if-room-at.false)
