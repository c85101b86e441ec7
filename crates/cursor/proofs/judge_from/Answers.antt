-- `judge_from`: what the steps from each cursor on the way accept is what those from the first accept.
use mathlib.Core.Path.{sym, ◌∙◌}
use Rattle.std.proofs.lemmas.Result.{err_from_is_err_and}
use Rattle.cursor.proofs.Passing.{step_passes, accepting_on, accepting_ends, accepting_stops}
use Rattle.cursor.proofs.judge_from.Goals as goal

pub returns-in_err-next : goal.returns-in_err-next
returns-in_err-next c =
    let p = err_from_is_err_and c.from_residual.result c.from_residual.ensures.1 in
    rw (p.1, p.2) (sym (c.loop-next.invariant ∙ accepting_stops _ _ _ (sym c.in_err-next.ensures)))

pub returns : goal.returns
returns c =
    sym (c.loop-next.invariant ∙ accepting_ends _ _ _ (sym (rw c.in_default.is at c.in_ok-next.ensures)))

pub loop-next-smaller : goal.loop-next-smaller
loop-next-smaller c =
    (step_passes _ _ _ _ (sym (rw c.in-Option.is at c.in_ok-next.ensures))).falls

pub loop-next-preserved : goal.loop-next-preserved
loop-next-preserved c =
    c.loop-next.invariant ∙ accepting_on _ _ _ _ (sym (rw c.in-Option.is at c.in_ok-next.ensures))
