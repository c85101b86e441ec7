-- `home_of`: 0 or another.
use borrow.Author.Tests.{eq-eqb, ne_eqb}
use Rattle.unflat.specs.Unflat.{home_of}
use Rattle.unflat.proofs.home_of.Goals as goal

pub returns-then-number-eq0 : goal.returns-then-number-eq0
unfolding home_of
returns-then-number-eq0 c = simp (eq-eqb _ _ c.if-number-eq0.true)

pub returns : goal.returns
unfolding home_of
returns c = simp (ne_eqb _ _ c.if-number-eq0.false)
