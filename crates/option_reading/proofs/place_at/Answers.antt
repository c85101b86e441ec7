-- `place_at`: by where the position stands, and by the byte there.
use borrow.Author.Tests.{lt-ltb, le-ltb, le-leb, lt-leb, eq-eqb, ne_eqb}
use Rattle.option_reading.specs.Option.{place_at, placed}
use Rattle.option_reading.proofs.place_at.Goals as goal

pub returns-then-count-gt-MAX_STORE : goal.returns-then-count-gt-MAX_STORE
unfolding placed
returns-then-count-gt-MAX_STORE g c = rw (← c.count-count.ensures, lt-ltb _ _ c.if-count-gt-MAX_STORE.true)

pub returns-then-count-idx : goal.returns-then-count-idx
unfolding placed place_at
returns-then-count-idx g c = rw (← c.count-count.ensures, le-ltb _ _ c.if-count-gt-MAX_STORE.false, le-leb _ _ c.if-count-idx.true)

pub returns-then-byte_at-eq255 : goal.returns-then-byte_at-eq255
unfolding placed place_at
returns-then-byte_at-eq255 g c =
    rw (← c.count-count.ensures, ← c.byte_at.ensures.is, le-ltb _ _ c.if-count-gt-MAX_STORE.false, lt-leb _ _ c.if-count-idx.false, eq-eqb _ _ c.if-byte_at-eq255.true)

pub returns : goal.returns
unfolding placed place_at
returns g c =
    rw (← c.count-count.ensures, ← c.byte_at.ensures.is, le-ltb _ _ c.if-count-gt-MAX_STORE.false, lt-leb _ _ c.if-count-idx.false, ne_eqb _ _ c.if-byte_at-eq255.false) c.option_at.ensures
