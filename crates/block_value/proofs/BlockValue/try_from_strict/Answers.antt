-- `try_from_strict` reads a uint of at most three bytes and hands on its block, unless the exponent is 7.
use native.Mathlib.Omega.{arith}
use borrow.Author.Rules.{rules}
use borrow.Author.Tests.{eq-eqb, ne_eqb}
use Rattle.option_value.proofs.Uints.{read_narrow}
use Rattle.block_value.specs.Strict.{strict_reading}
use Rattle.block_value.proofs.BlockValue.try_from_strict.Goals as goal

pub overflow_cast-read : goal.overflow_cast-read
overflow_cast-read c =
    omega (arith, read_narrow 3 c.args.value.now c.type_inv.value c.option_to_uint.ensures c.in_ok-read.was)

pub returns-in_err-read : goal.returns-in_err-read
unfolding strict_reading
returns-in_err-read c =
    rw (← c.option_to_uint.ensures, c.in_err-read.was) (search rules)

pub returns-then-block-eq7 : goal.returns-then-block-eq7
unfolding strict_reading
returns-then-block-eq7 c =
    rw (← c.option_to_uint.ensures, c.in_ok-read.was, ← c.block_of-block.ensures, eq-eqb _ 7 c.if-block-eq7.true)

pub returns : goal.returns
unfolding strict_reading
returns c =
    rw (← c.option_to_uint.ensures, c.in_ok-read.was, ← c.block_of-block.ensures, ne_eqb _ 7 c.if-block-eq7.false)
