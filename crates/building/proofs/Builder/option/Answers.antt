-- `Builder::option`: no option left, or none in an empty message; else the option by its own answer.
use mathlib.Core.Path.{sym, ap, ◌∙◌}
use native.Mathlib.Omega.{arith}
use Rattle.std.proofs.lemmas.Result.{err_from_is_err_and}
use Rattle.refusal.specs.Answer.{written}
use Rattle.building.proofs.Calls.{option_none_left, option_bare, option_by, option_within}
use Rattle.building.proofs.Builder.option.Goals as goal

pub returns-then-self-eq0 : goal.returns-then-self-eq0
returns-then-self-eq0 c = option_none_left _ _ _ c.if-self-eq0.true

pub returns-then-is_bare : goal.returns-then-is_bare
returns-then-is_bare c = option_bare _ _ _ c.if-self-eq0.false (sym c.is_bare.ensures ∙ c.if-is_bare.true) _ c.bare_refusal.ensures

pub overflow_add-result : goal.overflow_add-result
overflow_add-result c = omega (arith, option_within c.args.self _ _ _ (sym c.put_option.ensures.answer ∙ ap written c.in_ok-size.was))

pub returns-in_err-size : goal.returns-in_err-size
returns-in_err-size c =
    let p = err_from_is_err_and c.from_residual.result c.from_residual.ensures.1 in
    rw (p.1, p.2) (option_by _ _ _ c.if-self-eq0.false (sym c.is_bare.ensures ∙ c.if-is_bare.false) _ _ c.put_option.ensures _ (rw c.in_err-size.was))

pub returns : goal.returns
returns c = option_by _ _ _ c.if-self-eq0.false (sym c.is_bare.ensures ∙ c.if-is_bare.false) _ _ c.put_option.ensures _ (rw c.in_ok-size.was)
