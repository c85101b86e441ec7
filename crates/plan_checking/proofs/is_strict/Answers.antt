-- `is_strict` leaves out exponent 7 and numbers of more than 20 bits.
use native.Mathlib.Omega.{arith}
use borrow.Author.Tests.{ltb-true, ltb-false}
use Rattle.rfc.specs.Block.{block_of}
use Rattle.plan_checking.specs.Steps.{no}
use Rattle.plan_checking.proofs.Tests.{decides}
use Rattle.plan_checking.proofs.is_strict.Goals as goal

pub returns-then-value-eq7 : goal.returns-then-value-eq7
unfolding block_of
returns-then-value-eq7 c = no (λ v. omega (arith, v.szx, c.if-value-eq7.true))

pub returns : goal.returns
unfolding block_of
returns c = decides _ _ (λ e. record { num = omega (arith, ltb-true c.args.value 16777216 e); szx = omega arith }) (λ e v. omega (arith, ltb-false c.args.value 16777216 e, v.num))
