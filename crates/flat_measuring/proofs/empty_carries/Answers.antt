-- `empty_carries`: each return by the tests on its way.
use borrow.Author.Tests.{lt-ltb, le-ltb, eq-eqb, ne_eqb}
use Rattle.flat_measuring.proofs.Sent.{carries_is}
use Rattle.flat_measuring.proofs.empty_carries.Goals as goal

pub returns-then-numbers-ne0 : goal.returns-then-numbers-ne0
returns-then-numbers-ne0 c = rw (carries_is _, ne_eqb _ _ c.if-numbers-ne0.true)

pub returns-then-numbers-gt0 : goal.returns-then-numbers-gt0
returns-then-numbers-gt0 c = rw (carries_is _, eq-eqb _ _ c.if-numbers-ne0.false, lt-ltb _ _ c.if-numbers-gt0.true)

pub returns-then-numbers-gt0-2 : goal.returns-then-numbers-gt0-2
returns-then-numbers-gt0-2 c = rw (carries_is _, eq-eqb _ _ c.if-numbers-ne0.false, le-ltb _ _ c.if-numbers-gt0.false, lt-ltb _ _ c.if-numbers-gt0-2.true)

pub returns-else-numbers-gt0-2 : goal.returns-else-numbers-gt0-2
returns-else-numbers-gt0-2 c = rw (carries_is _, eq-eqb _ _ c.if-numbers-ne0.false, le-ltb _ _ c.if-numbers-gt0.false, le-ltb _ _ c.if-numbers-gt0-2.false)
