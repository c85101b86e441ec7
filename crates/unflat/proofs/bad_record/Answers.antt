-- `bad_record`: one test after the other.
use borrow.Author.Tests.{lt-ltb, le-ltb}
use Rattle.unflat.specs.Unflat.{bad_record}
use Rattle.unflat.proofs.bad_record.Goals as goal

pub returns-then-numbers-at-gt65535 : goal.returns-then-numbers-at-gt65535
unfolding bad_record
returns-then-numbers-at-gt65535 c = simp (lt-ltb _ _ c.if-numbers-at-gt65535.true)

pub returns : goal.returns
unfolding bad_record
returns c = simp (le-ltb _ _ c.if-numbers-at-gt65535.false)
