-- `old_count`: a kind that is 2 is inside the stream, so the next position is a number.
use mathlib.Core.Path.{◌∙◌}
use Rattle.stream.proofs.Heads.{old_chunk, old_none}
use Rattle.stream.proofs.old_count.Goals as goal

pub returns-then-byte_at-eq2 : goal.returns-then-byte_at-eq2
returns-then-byte_at-eq2 c = c.byte_at-then-byte_at-eq2.ensures.is ∙ old_chunk _ _ _ c.byte_at.ensures.is c.if-byte_at-eq2.true

pub returns : goal.returns
returns c = old_none _ _ _ c.byte_at.ensures.is c.if-byte_at-eq2.false
