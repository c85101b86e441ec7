-- `judge`: one test after the other, then the options.
use mathlib.Core.Path.{sym, ◌∙◌}
use borrow.Author.Tests.{lt-ltb, le-ltb}
use Rattle.framing.specs.Judging.{judged}
use Rattle.framing.proofs.judge.Goals as goal

pub returns-then-token_length-gt8 : goal.returns-then-token_length-gt8
unfolding judged
returns-then-token_length-gt8 c = rw (lt-ltb _ _ c.if-token_length-gt8.true)

pub returns-then-empty_carries : goal.returns-then-empty_carries
unfolding judged
returns-then-empty_carries c = rw (le-ltb _ _ c.if-token_length-gt8.false, sym c.empty_carries.ensures ∙ c.if-empty_carries.true)

pub returns : goal.returns
unfolding judged
returns c = rw (le-ltb _ _ c.if-token_length-gt8.false, sym c.empty_carries.ensures ∙ c.if-empty_carries.false) c.judge_options.ensures
