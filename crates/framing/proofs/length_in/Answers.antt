-- `length_in`: by the nibble, byte by byte.
use borrow.Author.Tests.{lt-ltb, le-ltb, eq-eqb, ne_eqb}
use Rattle.framing.specs.Head.{length_in}
use Rattle.framing.proofs.length_in.Goals as goal

pub returns-then-nibble-lt13 : goal.returns-then-nibble-lt13
unfolding length_in
returns-then-nibble-lt13 c = rw (lt-ltb _ _ c.if-nibble-lt13.true)

pub returns-then-nibble-eq13 : goal.returns-then-nibble-eq13
unfolding length_in
returns-then-nibble-eq13 c = rw (le-ltb _ _ c.if-nibble-lt13.false, eq-eqb _ _ c.if-nibble-eq13.true, c.byte_at.ensures.is)

pub returns-then-nibble-eq14 : goal.returns-then-nibble-eq14
unfolding length_in
returns-then-nibble-eq14 c = rw (le-ltb _ _ c.if-nibble-lt13.false, ne_eqb _ _ c.if-nibble-eq13.false, eq-eqb _ _ c.if-nibble-eq14.true, ← c.byte_at-2.ensures.is, ← c.byte_at-3.ensures.is)

pub returns : goal.returns
unfolding length_in
returns c = rw (le-ltb _ _ c.if-nibble-lt13.false, ne_eqb _ _ c.if-nibble-eq13.false, ne_eqb _ _ c.if-nibble-eq14.false, ← c.byte_at-2.ensures.is, ← c.byte_at-3.ensures.is, ← c.byte_at-4.ensures.is, ← c.byte_at-5.ensures.is)
