-- `judged_option`: the tests in their order.
use mathlib.Core.Path.{sym}
use native.Mathlib.Omega.{arith}
use borrow.Author.Tests.{lt-ltb, le-ltb}
use Rattle.laying.specs.Laying.{judged_option}
use Rattle.laying.proofs.Laid.{judged_full, judged_fits}
use Rattle.laying.proofs.judged_option.Goals as goal

pub returns-then-number-before : goal.returns-then-number-before
unfolding judged_option
returns-then-number-before c = rw (lt-ltb _ _ c.if-number-before.true)

pub returns-then-len : goal.returns-then-len
unfolding judged_option
returns-then-len c = rw (le-ltb _ _ c.if-number-before.false, lt-ltb _ _ c.if-len.true)

pub returns-then-room-at : goal.returns-then-room-at
returns-then-room-at c = sym (judged_full _ _ _ _ _ c.if-number-before.false c.if-len.false (omega arith))

pub returns-then-room-at-2 : goal.returns-then-room-at-2
returns-then-room-at-2 c = sym (judged_full _ _ _ _ _ c.if-number-before.false c.if-len.false (omega (arith, c.option_size-size.ensures)))

pub returns : goal.returns
returns c = rw c.option_size-size.ensures (sym (judged_fits _ _ _ _ _ c.if-number-before.false c.if-len.false (omega (arith, c.option_size-size.ensures))))
