-- `percent_at` meets its contract: two digits, each below 16.
use mathlib.Core.Path.{refl, sym, ap, ◌∙◌}
use borrow.Author.Tests.{lt-ltb, le-ltb}
use Rattle.std.specs.Result.{result_ok}
use Rattle.std.proofs.lemmas.Result.{err_from_is_err_and}
use Rattle.percent.specs.Step.{percent_at}
use Rattle.percent.proofs.Chars.{was_digit, was_none, asked}
use Rattle.percent.proofs.percent_at.Goals as goal

pub returns-then-part-i-lt2 : goal.returns-then-part-i-lt2
unfolding percent_at
returns-then-part-i-lt2 c = rw (lt-ltb _ 2 c.if-part-i-lt2.true) refl

pub returns-in_err-high : goal.returns-in_err-high
unfolding percent_at
returns-in_err-high c =
    let a = asked c.hex_value.result (sym c.ok_or.ensures.value ∙ c.in_err-high.was) in
    let n = was_none _ (sym a.0 ∙ c.hex_value.ensures) in
    let p = err_from_is_err_and c.from_residual.result c.from_residual.ensures.1 in
    rw (le-ltb _ 2 c.if-part-i-lt2.false, le-ltb _ 16 n, p.1, p.2, a.1) refl

pub returns-in_err-low : goal.returns-in_err-low
unfolding percent_at
returns-in_err-low c =
    let h = was_digit _ (sym (c.ok_or.ensures.ok_part ∙ ap result_ok c.in_ok-high.was) ∙ c.hex_value.ensures) in
    let a = asked c.hex_value-2.result (sym c.ok_or-2.ensures.value ∙ c.in_err-low.was) in
    let n = was_none _ (sym a.0 ∙ c.hex_value-2.ensures) in
    let p = err_from_is_err_and c.from_residual-in_err-low.result c.from_residual-in_err-low.ensures.1 in
    rw (le-ltb _ 2 c.if-part-i-lt2.false, lt-ltb _ 16 h.1, le-ltb _ 16 n, p.1, p.2, a.1) refl

pub returns : goal.returns
unfolding percent_at
returns c =
    let h = was_digit _ (sym (c.ok_or.ensures.ok_part ∙ ap result_ok c.in_ok-high.was) ∙ c.hex_value.ensures) in
    let l = was_digit _ (sym (c.ok_or-2.ensures.ok_part ∙ ap result_ok c.in_ok-low.was) ∙ c.hex_value-2.ensures) in
    rw (le-ltb _ 2 c.if-part-i-lt2.false, lt-ltb _ 16 h.1, lt-ltb _ 16 l.1, h.0, l.0) refl
