-- `unjudged`: by the nibble.
use native.Mathlib.Omega.{arith}
use borrow.Author.Tests.{lt-ltb, le-ltb, eq-eqb, ne_eqb}
use Rattle.scanning.specs.Plain.{plainly}
use Rattle.scanning.proofs.Plain.{extra_one, extra_two}
use Rattle.scanning.proofs.unjudged.Goals as goal

pub returns-then-nibble-lt13 : goal.returns-then-nibble-lt13
unfolding plainly
returns-then-nibble-lt13 c = rw (lt-ltb _ _ c.if-nibble-lt13.true)

pub byte_at-requires : goal.byte_at-requires
byte_at-requires c = omega (arith, extra_one _ c.if-nibble-eq13.true)

pub returns-then-nibble-eq13 : goal.returns-then-nibble-eq13
unfolding plainly
returns-then-nibble-eq13 c = rw (le-ltb _ _ c.if-nibble-lt13.false, eq-eqb _ _ c.if-nibble-eq13.true, c.byte_at.ensures.is)

pub byte_at-requires-2 : goal.byte_at-requires-2
byte_at-requires-2 c = omega (arith, extra_two _ c.if-nibble-lt13.false c.if-nibble-eq13.false)

pub byte_at-requires-3 : goal.byte_at-requires-3
byte_at-requires-3 c = omega (arith, extra_two _ c.if-nibble-lt13.false c.if-nibble-eq13.false)

pub returns : goal.returns
unfolding plainly
returns c = rw (le-ltb _ _ c.if-nibble-lt13.false, ne_eqb _ _ c.if-nibble-eq13.false, c.byte_at-2.ensures.is, c.byte_at-3.ensures.is)
