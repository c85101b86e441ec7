-- `new` judges in the definition's order.
use borrow.Author.Tests.{eq-eqb, ne_eqb, lt-ltb, le-ltb}
use Rattle.block_value.specs.Plain.{plain_new}
use Rattle.block_value.proofs.BlockValue.new.Goals as goal

pub returns-then-size-eq0 : goal.returns-then-size-eq0
unfolding plain_new
returns-then-size-eq0 c = rw (eq-eqb _ 0 c.if-size-eq0.true)

pub returns-then-size-gt4095 : goal.returns-then-size-gt4095
unfolding plain_new
returns-then-size-gt4095 c = rw (ne_eqb _ 0 c.if-size-eq0.false, lt-ltb 4095 _ c.if-size-gt4095.true)

pub returns-then-num-gt65535 : goal.returns-then-num-gt65535
unfolding plain_new
returns-then-num-gt65535 c =
    rw (ne_eqb _ 0 c.if-size-eq0.false, le-ltb 4095 _ c.if-size-gt4095.false, lt-ltb 65535 _ c.if-num-gt65535.true)

pub returns : goal.returns
unfolding plain_new
returns c =
    rw (ne_eqb _ 0 c.if-size-eq0.false, le-ltb 4095 _ c.if-size-gt4095.false, le-ltb 65535 _ c.if-num-gt65535.false, c.exponent_of.ensures)
