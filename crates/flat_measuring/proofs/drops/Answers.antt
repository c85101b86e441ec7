-- `drops`: by the mode, then the code.
use Rattle.flat_measuring.specs.FlatMeasuring.{dropped}
use Rattle.flat_measuring.proofs.drops.Goals as goal

pub returns-then-strict : goal.returns-then-strict
unfolding dropped
returns-then-strict c = rw c.if-strict.true

pub returns : goal.returns
unfolding dropped
returns c = rw c.if-strict.false
