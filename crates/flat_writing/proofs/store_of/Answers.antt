-- `store_of`: by the number.
use borrow.Author.Tests.{eq-eqb, ne_eqb}
use Rattle.unflat.specs.Unflat.{home_of}
use Rattle.flat_writing.proofs.store_of.Goals as goal

pub returns-then-home-eq0 : goal.returns-then-home-eq0
unfolding home_of
returns-then-home-eq0 c = rw (eq-eqb _ _ c.if-home-eq0.true)

pub returns : goal.returns
unfolding home_of
returns c = rw (ne_eqb _ _ c.if-home-eq0.false)
