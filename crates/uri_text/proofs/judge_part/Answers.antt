-- `judge_part` meets its contract: the whole is judged as what is left (`Judging`).
use mathlib.Core.Path.{◌≡◌, sym, ap, subst, ◌∙◌}
use native.Mathlib.Omega.{arith}
use Rattle.std.specs.Prelude.{Some, Ok}
use Rattle.std.specs.Result.{result_ok}
use Rattle.std.proofs.lemmas.Result.{err_from_is_err_and}
use Rattle.percent.specs.Step.{kind_of}
use Rattle.percent.proofs.Chars.{asked}
use Rattle.percent.proofs.Stepping.{Took, took, ended, stopped}
use Rattle.rfc.specs.Percent.{any}
use Rattle.utf8.specs.Row.{LeftDue}
use Rattle.uri_text.proofs.Judging.{judging_start, judging_bad, judging_never, judging_turn, judging_end}
use Rattle.uri_text.proofs.judge_part.Goals.{In-Some}
use Rattle.uri_text.proofs.judge_part.Goals as goal

-- The byte that was taken, with the rest after it.
taken : (c : In-Some) → Took (kind_of c.args.kind) any c.args.part.now c.loop-step.i c.in-Some.coded.byte c.in-Some.coded.next
taken c = took _ _ _ _ _ c.byte_at.ensures (c.in-Ok.is ∙ ap Ok c.in-Some.is)

pub loop-step-init : goal.loop-step-init
loop-step-init c = judging_start _ _ _

pub returns-in_default : goal.returns-in_default
returns-in_default c = judging_bad _ _ _ _ _ _ _ _ _ c.loop-step.invariant (stopped _ _ _ _ _ c.byte_at.ensures c.in_default.is)

pub returns-in_default-step : goal.returns-in_default-step
returns-in_default-step c = c.judge_end.ensures ∙ judging_end _ _ _ _ _ _ _ _ _ c.loop-step.invariant (ended _ _ _ _ c.byte_at.ensures (c.in-Ok.is ∙ ap Ok c.in_default-step.is))

pub returns-in_err-due : goal.returns-in_err-due
returns-in_err-due c =
    let a = asked c.after.result (sym c.ok_or.ensures.value ∙ c.in_err-due.was) in
    let p = err_from_is_err_and c.from_residual.result c.from_residual.ensures.1 in
    rw (p.1, p.2, a.1)
    (judging_never _ _ _ _ _ _ _ _ _ c.loop-step.invariant _ _ (taken (goal.at.returns-in_err-due c).In-Some) (subst (LeftDue _ _) a.0 c.after.ensures.text).is)

pub loop-step-smaller : goal.loop-step-smaller
loop-step-smaller c = let t = taken (goal.at.loop-step-smaller c).In-Some in omega (arith, t.ahead, t.inside)

pub loop-step-preserved : goal.loop-step-preserved
loop-step-preserved c =
    let left : c.after.result ≡ Some c.in_ok-due.due = c.ok_or.ensures.ok_part ∙ ap result_ok c.in_ok-due.was in
    rw c.only_dots-only.ensures
    (judging_turn _ _ _ _ _ _ _ _ _ c.loop-step.invariant _ _ _ _ _ (taken (goal.at.loop-step-preserved c).In-Some) (subst (LeftDue _ _) left c.after.ensures.text).is)
