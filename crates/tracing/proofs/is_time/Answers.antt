-- `is_time`: the kind, and what is left after it.
use mathlib.Core.Path.{sym, ◌∙◌}
use native.Mathlib.Omega.{arith}
use Rattle.stream.proofs.Sound.{inside_of}
use Rattle.tracing.proofs.Found.{no_kind, by_what_is_left}
use Rattle.tracing.proofs.is_time.Goals as goal

pub returns-then-byte_at-ne8 : goal.returns-then-byte_at-ne8
returns-then-byte_at-ne8 c = sym (no_kind _ _ (λ q. c.if-byte_at-ne8.true (c.byte_at.ensures.is ∙ q)))

pub returns : goal.returns
returns c = by_what_is_left _ _ (sym c.byte_at.ensures.is ∙ c.if-byte_at-ne8.false) (omega (arith, inside_of c.args.trace.now c.args.at 7 (sym c.byte_at.ensures.is ∙ c.if-byte_at-ne8.false)))
