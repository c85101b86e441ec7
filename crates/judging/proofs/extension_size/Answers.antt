-- `extension_size`: each return by the tests on its way.
use Rattle.judging.specs.Judge.{extension_size}
use borrow.Author.Tests.{lt-ltb, le-ltb}
use Rattle.judging.proofs.extension_size.Goals as goal

pub returns-then-n-lt13 : goal.returns-then-n-lt13
unfolding extension_size
returns-then-n-lt13 c = simp (lt-ltb _ _ c.if-n-lt13.true)

pub returns-then-n-lt269 : goal.returns-then-n-lt269
unfolding extension_size
returns-then-n-lt269 c = simp (le-ltb _ _ c.if-n-lt13.false, lt-ltb _ _ c.if-n-lt269.true)

pub returns : goal.returns
unfolding extension_size
returns c = simp (le-ltb _ _ c.if-n-lt13.false, le-ltb _ _ c.if-n-lt269.false)
