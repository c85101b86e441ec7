-- `cut_short`: one test after the other.
use borrow.Author.Tests.{lt-ltb, le-ltb}
use Rattle.flat_measuring.specs.FlatMeasuring.{cut_short}
use Rattle.flat_measuring.proofs.cut_short.Goals as goal

pub returns-then-numbers-lt11 : goal.returns-then-numbers-lt11
unfolding cut_short
returns-then-numbers-lt11 c = simp (lt-ltb _ _ c.if-numbers-lt11.true)

pub returns-then-numbers : goal.returns-then-numbers
unfolding cut_short
returns-then-numbers c = simp (le-ltb _ _ c.if-numbers-lt11.false, lt-ltb _ _ c.if-numbers.true)

pub returns : goal.returns
unfolding cut_short
returns c = simp (le-ltb _ _ c.if-numbers-lt11.false, le-ltb _ _ c.if-numbers.false)
