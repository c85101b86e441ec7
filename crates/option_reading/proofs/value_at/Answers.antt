-- `value_at`: one test after the other.
use Rattle.option_reading.specs.Option.{value_at}
use borrow.Author.Tests.{lt-ltb, le-ltb}
use Rattle.option_reading.proofs.value_at.Goals as goal

pub returns-then-number-gt-MAX_NUMBER : goal.returns-then-number-gt-MAX_NUMBER
unfolding value_at
returns-then-number-gt-MAX_NUMBER g c = rw (lt-ltb _ _ c.if-number-gt-MAX_NUMBER.true)

pub returns-then-count-start : goal.returns-then-count-start
unfolding value_at
returns-then-count-start g c = rw (le-ltb _ _ c.if-number-gt-MAX_NUMBER.false, ← c.count.ensures, lt-ltb _ _ c.if-count-start.true)

pub returns : goal.returns
unfolding value_at
returns g c = rw (le-ltb _ _ c.if-number-gt-MAX_NUMBER.false, ← c.count.ensures, le-ltb _ _ c.if-count-start.false)
