-- `put_head`: the raw header, then the token.
use native.Mathlib.Omega.{arith}
use Rattle.unflat.proofs.Unflat.{small}
use Rattle.flat_writing.proofs.Head.{head_laid}
use Rattle.flat_writing.proofs.put_head.Goals as goal

pub overflow_mul-raw-2 : goal.overflow_mul-raw-2
overflow_mul-raw-2 c = omega (arith, (small _ c.requires.1).type)

pub overflow_add-raw : goal.overflow_add-raw
overflow_add-raw c = omega (arith, (small _ c.requires.1).type)

pub overflow_add-raw-2 : goal.overflow_add-raw-2
overflow_add-raw-2 c = omega (arith, (small _ c.requires.1).type)

pub overflow_cast-raw : goal.overflow_cast-raw
overflow_cast-raw c = omega (arith, (small _ c.requires.1).type)

pub overflow_cast-raw-2 : goal.overflow_cast-raw-2
overflow_cast-raw-2 c = omega (arith, (small _ c.requires.1).code)

pub overflow_cast-raw-3 : goal.overflow_cast-raw-3
overflow_cast-raw-3 c = omega (arith, (small _ c.requires.1).id)

pub returns : goal.returns
returns c = head_laid _ _ _ _ _ _ c.requires c.serialize_into.ensures.out_after c.put_bytes.ensures
