-- `bad_next`: one test after the other.
use mathlib.Core.Path.{sym, ◌∙◌}
use borrow.Author.Tests.{lt-ltb, le-ltb}
use Rattle.unflat.specs.Unflat.{bad_record}
use Rattle.flat_measuring.specs.FlatMeasuring.{bad_next}
use Rattle.flat_measuring.proofs.bad_next.Goals as goal

pub returns-then-number-gt65535 : goal.returns-then-number-gt65535
unfolding bad_next bad_record
returns-then-number-gt65535 c = rw (lt-ltb _ _ c.if-number-gt65535.true)

pub returns-then-home-gt1 : goal.returns-then-home-gt1
unfolding bad_next bad_record
returns-then-home-gt1 c = rw (le-ltb _ _ c.if-number-gt65535.false, lt-ltb _ _ c.if-home-gt1.true)

pub returns-then-number-before : goal.returns-then-number-before
unfolding bad_next bad_record
returns-then-number-before c = rw (le-ltb _ _ c.if-number-gt65535.false, le-ltb _ _ c.if-home-gt1.false, lt-ltb _ _ c.if-number-before.true)

pub returns-then-outside : goal.returns-then-outside
unfolding bad_next bad_record
returns-then-outside c = rw (le-ltb _ _ c.if-number-gt65535.false, le-ltb _ _ c.if-home-gt1.false, le-ltb _ _ c.if-number-before.false, sym c.outside.ensures ∙ c.if-outside.true)

pub returns : goal.returns
unfolding bad_next bad_record
returns c = rw (le-ltb _ _ c.if-number-gt65535.false, le-ltb _ _ c.if-home-gt1.false, le-ltb _ _ c.if-number-before.false, sym c.outside.ensures ∙ c.if-outside.false)
