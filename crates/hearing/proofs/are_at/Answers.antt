-- `are_at`: what is left to compare decides.
use native.Mathlib.Omega.{arith}
use Rattle.hearing.proofs.Compared.{compare_other, compare_turn}
use Rattle.hearing.proofs.are_at.Goals as goal

pub returns-then-s-at : goal.returns-then-s-at
returns-then-s-at c = compare_other _ _ _ _ c.loop-i.invariant (omega arith) (omega arith) c.if-s-at.true

pub loop-i-preserved : goal.loop-i-preserved
loop-i-preserved c = compare_turn _ _ _ _ c.loop-i.invariant (omega arith) (omega arith) c.if-s-at.false
