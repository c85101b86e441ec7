-- `is_image` tests in the definition's order.
use borrow.Author.Tests.{le-leb, lt-leb}
use Rattle.image.specs.Image.{fits}
use Rattle.image.proofs.is_image.Goals as goal

pub returns-then-size-lt1 : goal.returns-then-size-lt1
unfolding fits
returns-then-size-lt1 c = rw (lt-leb _ _ c.if-size-lt1.true)

pub returns-then-size-gt1048576 : goal.returns-then-size-gt1048576
unfolding fits
returns-then-size-gt1048576 c = rw (le-leb _ _ c.if-size-lt1.false, lt-leb _ _ c.if-size-gt1048576.true)

pub returns : goal.returns
unfolding fits
returns c = rw (le-leb _ _ c.if-size-lt1.false, le-leb _ _ c.if-size-gt1048576.false)
