-- `nibble`: the number itself, 13 or 14, by its size.
use mathlib.Core.Path.{sym}
use Rattle.rfc.proofs.Message.{nibble_none, nibble_one, nibble_two}
use Rattle.laying.proofs.nibble.Goals as goal

pub returns-then-n-lt13 : goal.returns-then-n-lt13
returns-then-n-lt13 c = sym (nibble_none _ c.if-n-lt13.true)

pub returns-then-n-lt269 : goal.returns-then-n-lt269
returns-then-n-lt269 c = sym (nibble_one _ c.if-n-lt13.false c.if-n-lt269.true)

pub returns : goal.returns
returns c = sym (nibble_two _ c.if-n-lt269.false)
