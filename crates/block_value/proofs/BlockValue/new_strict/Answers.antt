-- `new_strict` judges in the definition's order; a strict size has its exponent.
use mathlib.Core.Path.{sym, ◌∙◌}
use mathlib.Core.Bool.{true}
use borrow.Author.Tests.{lt-ltb, le-ltb}
use Rattle.block_value.specs.Strict.{strict_new}
use Rattle.block_value.proofs.BlockValue.new_strict.Goals as goal

pub returns-then-not-is_strict_size : goal.returns-then-not-is_strict_size
unfolding strict_new
returns-then-not-is_strict_size c =
    rw (sym c.is_strict_size.ensures ∙ c.if-not-is_strict_size.true)

pub returns-then-num-gt1048575 : goal.returns-then-num-gt1048575
unfolding strict_new
returns-then-num-gt1048575 c = rw (sym c.is_strict_size.ensures ∙ c.if-not-is_strict_size.false, lt-ltb 1048575 _ c.if-num-gt1048575.true)

pub returns : goal.returns
unfolding strict_new
returns c = rw (sym c.is_strict_size.ensures ∙ c.if-not-is_strict_size.false, le-ltb 1048575 _ c.if-num-gt1048575.false, c.exponent_of.ensures)
