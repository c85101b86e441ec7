-- `strict_timed_at`: the time, then the message.
use mathlib.Core.Path.{sym, ◌∙◌}
use native.Mathlib.Omega.{arith}
use Rattle.tracing.proofs.Found.{time_there}
use Rattle.tracing.proofs.Judging.{strict_untimed, strict_timed}
use Rattle.tracing.proofs.strict_timed_at.Goals as goal

pub returns-then-not-is_time : goal.returns-then-not-is_time
returns-then-not-is_time c = sym (strict_untimed _ _ _ (sym c.is_time.ensures ∙ c.if-not-is_time.true))

pub overflow_add-at : goal.overflow_add-at
overflow_add-at c = omega (arith, (time_there _ _ (sym c.is_time.ensures ∙ c.if-not-is_time.false)).1)

pub returns : goal.returns
returns c = c.strict_at.ensures ∙ sym (strict_timed _ _ _ (sym c.is_time.ensures ∙ c.if-not-is_time.false))
