-- `largest_at` doubles an open block until the double isn't open.
use native.Mathlib.Omega.{arith}
use Rattle.plan_checking.proofs.Tests.{told, told_not, asked_missing}
use Rattle.planning.proofs.Largest.{not_aligned, not_missing, grown_more, full}
use Rattle.planning.proofs.largest_at.Goals as goal

pub returns-then-unit-double-ne0 : goal.returns-then-unit-double-ne0
returns-then-unit-double-ne0 c = not_aligned _ _ _ _ c.loop-exponent.invariant (omega arith) c.if-unit-double-ne0.true

pub returns-then-not-all_are : goal.returns-then-not-all_are
returns-then-not-all_are c = not_missing _ _ _ _ c.loop-exponent.invariant (omega arith) (told_not (asked_missing _ _ _ c.all_are.ensures) c.if-not-all_are.true)

pub loop-exponent-preserved : goal.loop-exponent-preserved
loop-exponent-preserved c = grown_more _ _ _ _ c.loop-exponent.invariant (omega arith) c.if-unit-double-ne0.false (told (asked_missing _ _ _ c.all_are.ensures) c.if-not-all_are.false)

pub returns : goal.returns
returns c = full _ _ _ _ c.loop-exponent.invariant (omega arith)
