-- `extended`: by the nibble, and by what is left for its extension.
use Rattle.option_reading.specs.Option.{extended}
use borrow.Author.Tests.{lt-ltb, le-ltb, eq-eqb, ne_eqb}
use Rattle.option_reading.proofs.extended.Goals as goal

pub returns-then-nibble-lt13-clause-value : goal.returns-then-nibble-lt13-clause-value
unfolding extended
returns-then-nibble-lt13-clause-value g c = rw (lt-ltb _ _ c.if-nibble-lt13.true)

pub returns-then-count-idx-lt1-clause-value : goal.returns-then-count-idx-lt1-clause-value
unfolding extended
returns-then-count-idx-lt1-clause-value g c = rw (le-ltb _ _ c.if-nibble-lt13.false, eq-eqb _ _ c.if-nibble-eq13.true, ← c.count.ensures, lt-ltb _ _ c.if-count-idx-lt1.true)

pub returns-then-nibble-eq13-clause-value : goal.returns-then-nibble-eq13-clause-value
unfolding extended
returns-then-nibble-eq13-clause-value g c = rw (le-ltb _ _ c.if-nibble-lt13.false, eq-eqb _ _ c.if-nibble-eq13.true, ← c.count.ensures, le-ltb _ _ c.if-count-idx-lt1.false, c.byte_at.ensures.is)

pub returns-then-count-idx-lt2-clause-value : goal.returns-then-count-idx-lt2-clause-value
unfolding extended
returns-then-count-idx-lt2-clause-value g c = rw (le-ltb _ _ c.if-nibble-lt13.false, ne_eqb _ _ c.if-nibble-eq13.false, eq-eqb _ _ c.if-nibble-eq14.true, ← c.count-then-nibble-eq14.ensures, lt-ltb _ _ c.if-count-idx-lt2.true)

pub returns-then-most-value-clause-value : goal.returns-then-most-value-clause-value
unfolding extended
returns-then-most-value-clause-value g c = rw (le-ltb _ _ c.if-nibble-lt13.false, ne_eqb _ _ c.if-nibble-eq13.false, eq-eqb _ _ c.if-nibble-eq14.true, ← c.count-then-nibble-eq14.ensures, le-ltb _ _ c.if-count-idx-lt2.false, ← c.byte_at-then-nibble-eq14.ensures.is, ← c.byte_at-then-nibble-eq14-2.ensures.is, lt-ltb _ _ c.if-most-value.true)

pub returns-then-nibble-eq14-clause-value : goal.returns-then-nibble-eq14-clause-value
unfolding extended
returns-then-nibble-eq14-clause-value g c = rw (le-ltb _ _ c.if-nibble-lt13.false, ne_eqb _ _ c.if-nibble-eq13.false, eq-eqb _ _ c.if-nibble-eq14.true, ← c.count-then-nibble-eq14.ensures, le-ltb _ _ c.if-count-idx-lt2.false, ← c.byte_at-then-nibble-eq14.ensures.is, ← c.byte_at-then-nibble-eq14-2.ensures.is, le-ltb _ _ c.if-most-value.false)

pub returns-clause-value : goal.returns-clause-value
unfolding extended
returns-clause-value g c = rw (le-ltb _ _ c.if-nibble-lt13.false, ne_eqb _ _ c.if-nibble-eq13.false, ne_eqb _ _ c.if-nibble-eq14.false)
