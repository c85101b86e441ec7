-- `put_loosely`: what stands before the value, and then the run that begins with it.
use native.Mathlib.Omega.{arith}
use Rattle.flat_writing.proofs.Pieces.{nibbles_few, option_loosely}
use Rattle.flat_writing.proofs.put_loosely.Goals as goal

pub overflow_add-result : goal.overflow_add-result
overflow_add-result c =
    omega (arith, c.put_nibbles-value.ensures.next, nibbles_few c.args.delta c.args.len, c.requires.1, c.requires.3)

pub returns : goal.returns
returns c =
    option_loosely _ _ _ _ _ _ _ _ _ c.requires.1 c.requires.2 c.requires.3 c.put_nibbles-value.ensures c.put_run.ensures
