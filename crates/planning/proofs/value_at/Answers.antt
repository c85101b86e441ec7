-- `value_at` adds up the block's value.
use Rattle.planning.proofs.Values.{value_more, value_last}
use Rattle.planning.proofs.value_at.Goals as goal

pub returns-then-unit-width : goal.returns-then-unit-width
returns-then-unit-width c = value_more c.args.size c.args.unit c.args.width c.args.exponent c.requires.1 c.if-unit-width.true

pub returns : goal.returns
returns c = value_last c.args.size c.args.unit c.args.width c.args.exponent c.requires.1 c.if-unit-width.false
