-- `extra_bytes`: by the nibble.
use borrow.Author.Tests.{lt-ltb, le-ltb, eq-eqb, ne_eqb}
use Rattle.framing.specs.Head.{extra}
use Rattle.framing.proofs.extra_bytes.Goals as goal

pub returns-then-nibble-lt13 : goal.returns-then-nibble-lt13
unfolding extra
returns-then-nibble-lt13 c = rw (lt-ltb _ _ c.if-nibble-lt13.true)

pub returns-then-nibble-eq13 : goal.returns-then-nibble-eq13
unfolding extra
returns-then-nibble-eq13 c = rw (le-ltb _ _ c.if-nibble-lt13.false, eq-eqb _ _ c.if-nibble-eq13.true)

pub returns-then-nibble-eq14 : goal.returns-then-nibble-eq14
unfolding extra
returns-then-nibble-eq14 c = rw (le-ltb _ _ c.if-nibble-lt13.false, ne_eqb _ _ c.if-nibble-eq13.false, eq-eqb _ _ c.if-nibble-eq14.true)

pub returns : goal.returns
unfolding extra
returns c = rw (le-ltb _ _ c.if-nibble-lt13.false, ne_eqb _ _ c.if-nibble-eq13.false, ne_eqb _ _ c.if-nibble-eq14.false)
