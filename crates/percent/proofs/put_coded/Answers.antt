-- `put_coded` meets its contract: one character, or three.
use mathlib.Core.Path.{sym, ◌∙◌}
use Rattle.percent.proofs.Coding.{coded_literal, coded_other}
use Rattle.percent.proofs.put_coded.Goals as goal

pub returns-then-is_literal : goal.returns-then-is_literal
returns-then-is_literal c = rw (coded_literal _ _ (sym c.is_literal.ensures ∙ c.if-is_literal.true)) c.put_byte.ensures

pub returns : goal.returns
returns c =
    rw (coded_other _ _ (sym c.is_literal.ensures ∙ c.if-is_literal.false))
    (rw (c.hex_digit.ensures, c.hex_digit-2.ensures) at c.put_bytes.ensures)
