-- `Lengths::too_long`: each return by the test before it.
use borrow.Author.Tests.{lt-ltb, le-ltb}
use Rattle.judging.specs.Judge.{is_too_long}
use Rattle.judging.proofs.Lengths.too_long.Goals as goal

pub returns-then-self-gt-MAX_STORE : goal.returns-then-self-gt-MAX_STORE
unfolding is_too_long
returns-then-self-gt-MAX_STORE c = rw (lt-ltb _ _ c.if-self-gt-MAX_STORE.true)

pub returns : goal.returns
unfolding is_too_long
returns c = rw (le-ltb _ _ c.if-self-gt-MAX_STORE.false)
