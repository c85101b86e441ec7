-- `scalar` is a block's number: M is at most 1, so that nothing wraps.
use mathlib.Core.Path.{◌≡◌, refl}
use mathlib.Core.Bool.{Bool, true, false}
use native.Mathlib.Omega.{arith}
use mir.Val.{bool_byte}
use Rattle.rfc.specs.Block.{bit, block_number}
use Rattle.rfc.proofs.Block.{bit_small}
use Rattle.block_value.proofs.scalar.Goals as goal

-- A cast of M gives its bit.
byte_bit : (more : Bool) → bool_byte more ≡ bit more
byte_bit true = refl
byte_bit false = refl

pub overflow_mul-result-2 : goal.overflow_mul-result-2
overflow_mul-result-2 c = let more = c.args.block.more in omega (arith, byte_bit more, bit_small more)

pub overflow_add-result : goal.overflow_add-result
overflow_add-result c = let more = c.args.block.more in omega (arith, byte_bit more, bit_small more)

pub overflow_add-result-2 : goal.overflow_add-result-2
overflow_add-result-2 c = let more = c.args.block.more in omega (arith, byte_bit more, bit_small more)

pub returns : goal.returns
unfolding block_number
returns c = omega (arith, byte_bit c.args.block.more)
