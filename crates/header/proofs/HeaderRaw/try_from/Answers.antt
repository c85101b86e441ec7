-- `HeaderRaw::try_from`: the test of the length, then the four bytes.
use borrow.Author.Tests.{lt-ltb, le-ltb}
use Rattle.header.specs.Header.{raw_in}
use Rattle.header.proofs.HeaderRaw.try_from.Goals as goal

pub returns-then-buf-lt4 : goal.returns-then-buf-lt4
unfolding raw_in
returns-then-buf-lt4 c = simp (lt-ltb _ _ c.if-buf-lt4.true)

pub returns : goal.returns
unfolding raw_in
returns c = simp (le-ltb _ _ c.if-buf-lt4.false)
