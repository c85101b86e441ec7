-- `try_from` reads a uint of at most two bytes and hands on its block.
use native.Mathlib.Omega.{arith}
use borrow.Author.Rules.{rules}
use Rattle.option_value.proofs.Uints.{read_narrow}
use Rattle.block_value.specs.Plain.{plain_reading}
use Rattle.block_value.proofs.BlockValue.try_from.Goals as goal

pub overflow_cast-read : goal.overflow_cast-read
overflow_cast-read c =
    omega (arith, read_narrow 2 c.args.value.now c.type_inv.value c.option_to_uint.ensures c.in_ok-read.was)

pub returns-in_err-read : goal.returns-in_err-read
unfolding plain_reading
returns-in_err-read c =
    rw (← c.option_to_uint.ensures, c.in_err-read.was) (search rules)

pub returns : goal.returns
unfolding plain_reading
returns c =
    rw (← c.option_to_uint.ensures, c.in_ok-read.was, c.block_of.ensures)
