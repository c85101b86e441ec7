-- `header_in`: each field holds its number.
use native.Mathlib.Omega.{arith}
use Rattle.unflat.specs.Unflat.{header_in}
use Rattle.unflat.proofs.Unflat.{small}
use Rattle.unflat.proofs.header_in.Goals as goal

pub overflow_cast-result : goal.overflow_cast-result
overflow_cast-result c = omega (arith, (small _ c.requires.1).version)

pub overflow_cast-numbers : goal.overflow_cast-numbers
overflow_cast-numbers c = omega (arith, (small _ c.requires.1).type)

pub overflow_cast-numbers-2 : goal.overflow_cast-numbers-2
overflow_cast-numbers-2 c = omega (arith, (small _ c.requires.1).code)

pub overflow_cast-result-2 : goal.overflow_cast-result-2
overflow_cast-result-2 c = omega (arith, (small _ c.requires.1).id)

pub returns : goal.returns
unfolding header_in
returns c = rw (c.from_byte.ensures, c.from_number.ensures)
