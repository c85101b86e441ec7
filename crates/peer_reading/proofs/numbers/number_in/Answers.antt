-- `number_in`: a zero first is refused, and any other text is read.
use mathlib.Core.Path.{sym, ◌∙◌}
use Rattle.peer_reading.proofs.Numbered.{numeral_zero, numeral_is}
use Rattle.peer_reading.proofs.numbers.number_in.Goals as goal

pub returns-then-zero_first : goal.returns-then-zero_first
returns-then-zero_first c = numeral_zero _ _ (sym c.zero_first.ensures ∙ c.if-zero_first.true)

pub returns : goal.returns
returns c = numeral_is _ _ _ (sym c.zero_first.ensures ∙ c.if-zero_first.false) c.decimal_in.ensures
