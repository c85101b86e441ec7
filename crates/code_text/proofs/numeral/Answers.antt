-- `numeral`: a plus sign is passed over, and the rest is digits.
use mathlib.Core.Path.{sym, ◌∙◌}
use native.Mathlib.Omega.{arith}
use Rattle.code_text.proofs.CodeText.{rest, numeral_none, numeral_plus, numeral_plain}
use Rattle.code_text.proofs.numeral.Goals as goal

pub returns-then-text-eq0 : goal.returns-then-text-eq0
returns-then-text-eq0 c =
    sym (numeral_none c.args.most c.args.text.now c.if-text-eq0.true)

pub returns-then-text-eq43 : goal.returns-then-text-eq43
returns-then-text-eq43 c =
    c.decimal_in.ensures
    ∙ rw rest (sym (numeral_plus c.args.most c.args.text.now (omega (arith, c.if-text-eq0.false)) c.if-text-eq43.true))

pub returns : goal.returns
returns c =
    c.decimal_in-2.ensures
    ∙ sym (numeral_plain c.args.most c.args.text.now (omega (arith, c.if-text-eq0.false)) c.if-text-eq43.false)
