-- `timed_at`: the time, then the message.
use mathlib.Core.Path.{sym, ap, ◌∙◌}
use Rattle.std.proofs.lemmas.Result.{err_from_is_err_and}
use Rattle.tracing.proofs.Judging.{measures}
use Rattle.tracing.proofs.Found.{time_there, no_time, timed_refused}
use Rattle.tracing.specs.Answers.{timed_extent}
use Rattle.stream.proofs.Walk.{whole_of, bad_of}
use native.Mathlib.Omega.{arith}
use Rattle.tracing.proofs.timed_at.Goals as goal

pub returns-then-not-is_time : goal.returns-then-not-is_time
returns-then-not-is_time c = sym (ap timed_extent (no_time _ _ _ (sym c.is_time.ensures ∙ c.if-not-is_time.true)))

pub overflow_add-at : goal.overflow_add-at
overflow_add-at c = omega (arith, (time_there _ _ (sym c.is_time.ensures ∙ c.if-not-is_time.false)).1)

pub overflow_add-at-2 : goal.overflow_add-at-2
overflow_add-at-2 c = omega (arith, (time_there _ _ (sym c.is_time.ensures ∙ c.if-not-is_time.false)).1)

pub four_at-requires : goal.four_at-requires
four_at-requires c = omega (arith, (time_there _ _ (sym c.is_time.ensures ∙ c.if-not-is_time.false)).1)

pub returns-in_err-message : goal.returns-in_err-message
returns-in_err-message c =
    let p = err_from_is_err_and c.from_residual.result c.from_residual.ensures.1 in
    rw (p.1, p.2) (sym (ap timed_extent (timed_refused _ _ _ (sym c.is_time.ensures ∙ c.if-not-is_time.false) _ (bad_of _ _ _ _ c.in_err-message.ensures))))

pub returns : goal.returns
returns c =
    measures _ _ _ _ _ _ (sym c.is_time.ensures ∙ c.if-not-is_time.false) c.four_at.ensures.is (whole_of _ _ _ _ _ c.in_ok-message.ensures)
