-- `block_of` takes a number apart as the definition does.
use mathlib.Core.Path.{refl}
use Rattle.rfc.specs.Block.{block_of}
use Rattle.block_value.proofs.block_of.Goals as goal

pub returns : goal.returns
unfolding block_of
returns c = refl
