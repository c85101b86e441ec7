-- `marker_size`: by its test.
use borrow.Author.Tests.{lt-ltb, le-ltb}
use Rattle.measuring.specs.Measuring.{marker_size}
use Rattle.measuring.proofs.marker_size.Goals as goal

pub returns-then-payload-gt0 : goal.returns-then-payload-gt0
unfolding marker_size
returns-then-payload-gt0 c = simp (lt-ltb _ _ c.if-payload-gt0.true)

pub returns-else-payload-gt0 : goal.returns-else-payload-gt0
unfolding marker_size
returns-else-payload-gt0 c = simp (le-ltb _ _ c.if-payload-gt0.false)
