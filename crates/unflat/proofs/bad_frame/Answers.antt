-- `bad_frame`: one test after the other.
use mathlib.Core.Path.{sym, ◌∙◌}
use borrow.Author.Tests.{lt-ltb, le-ltb}
use Rattle.unflat.specs.Unflat.{bad_frame}
use Rattle.unflat.proofs.bad_frame.Goals as goal

pub returns-then-numbers-lt11 : goal.returns-then-numbers-lt11
unfolding bad_frame
returns-then-numbers-lt11 c = simp (lt-ltb _ _ c.if-numbers-lt11.true)

pub returns-then-bad_head : goal.returns-then-bad_head
unfolding bad_frame
returns-then-bad_head c = simp (le-ltb _ _ c.if-numbers-lt11.false, sym c.bad_head.ensures ∙ c.if-bad_head.true)

pub returns : goal.returns
unfolding bad_frame
returns c = simp (le-ltb _ _ c.if-numbers-lt11.false, sym c.bad_head.ensures ∙ c.if-bad_head.false)
