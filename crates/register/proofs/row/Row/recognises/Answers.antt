-- `Row::recognises`: each return by the tests on its way.
use mathlib.Core.Path.{◌≡◌, refl}
use mathlib.Core.Bool.{Bool, true, false, not}
use borrow.Author.Tests.{le-leb, lt-leb}
use Rattle.ground.specs.Choice.{both}
use Rattle.rfc.specs.Recognised.{recognised}
use Rattle.register.proofs.row.Row.recognises.Goals as goal

first : (before repeatable : Bool) → before ≡ false → not before ≡ not (both before (not repeatable))
first true repeatable e = cc
first false repeatable e = refl

again : (before repeatable : Bool) → before ≡ true → repeatable ≡ not (both before (not repeatable))
again true true e = refl
again true false e = refl
again false repeatable e = cc

pub returns-then-len-self : goal.returns-then-len-self
unfolding recognised
returns-then-len-self c = rw (lt-leb _ _ c.if-len-self.true)

pub returns-then-self-len : goal.returns-then-self-len
unfolding recognised
returns-then-self-len c = rw (le-leb _ _ c.if-len-self.false, lt-leb _ _ c.if-self-len.true)

pub returns-then-not-before : goal.returns-then-not-before
unfolding recognised
returns-then-not-before c = rw (le-leb _ _ c.if-len-self.false, le-leb _ _ c.if-self-len.false) (first c.args.before c.args.self.repeatable c.if-not-before.true)

pub returns-else-not-before : goal.returns-else-not-before
unfolding recognised
returns-else-not-before c = rw (le-leb _ _ c.if-len-self.false, le-leb _ _ c.if-self-len.false) (again c.args.before c.args.self.repeatable c.if-not-before.false)
