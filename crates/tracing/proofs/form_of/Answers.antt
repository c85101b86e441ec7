-- `form_of`: by the kind of the first chunk.
use mathlib.Core.Path.{sym, ◌∙◌}
use Rattle.tracing.proofs.Complete.{old_form, new_form}
use Rattle.tracing.proofs.form_of.Goals as goal

pub returns-then-byte_at-eq2 : goal.returns-then-byte_at-eq2
returns-then-byte_at-eq2 c = sym (old_form _ (sym c.byte_at.ensures.is ∙ c.if-byte_at-eq2.true))

pub returns : goal.returns
returns c = sym (new_form _ (λ q. c.if-byte_at-eq2.false (c.byte_at.ensures.is ∙ q)))
