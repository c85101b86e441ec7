-- `sized`: each return by the tests on its way.
use borrow.Author.Tests.{lt-ltb, le-ltb}
use Rattle.stream.specs.Answers.{sized_extent}
use Rattle.stream.proofs.sized.Goals as goal

pub returns-then-len-lt4 : goal.returns-then-len-lt4
unfolding sized_extent
returns-then-len-lt4 c = simp (lt-ltb _ _ c.if-len-lt4.true)

pub returns-then-len-gt-FULL_SIZE : goal.returns-then-len-gt-FULL_SIZE
unfolding sized_extent
returns-then-len-gt-FULL_SIZE c = simp (le-ltb _ _ c.if-len-lt4.false, lt-ltb _ _ c.if-len-gt-FULL_SIZE.true)

pub returns : goal.returns
unfolding sized_extent
returns c = simp (le-ltb _ _ c.if-len-lt4.false, le-ltb _ _ c.if-len-gt-FULL_SIZE.false)
