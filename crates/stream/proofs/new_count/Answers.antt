-- `new_count`: each return by the tests on its way.
use Rattle.stream.proofs.Heads.{new_full, new_high, new_short}
use mathlib.Core.Path.{◌∙◌}
use native.Mathlib.Omega.{arith}
use Rattle.stream.proofs.new_count.Goals as goal

pub returns-then-kind-eq4 : goal.returns-then-kind-eq4
returns-then-kind-eq4 c = new_full _ _ _ c.byte_at-kind.ensures.is c.if-kind-eq4.true

pub returns-then-kind-ge192 : goal.returns-then-kind-ge192
returns-then-kind-ge192 c = new_high _ _ _ c.byte_at-kind.ensures.is c.if-kind-eq4.false c.if-kind-ge192.true

pub returns-then-kind-lt128 : goal.returns-then-kind-lt128
returns-then-kind-lt128 c = (omega arith) ∙ new_short _ _ _ c.byte_at-kind.ensures.is c.if-kind-eq4.false c.if-kind-ge192.false

pub returns : goal.returns
returns c = new_short _ _ _ c.byte_at-kind.ensures.is c.if-kind-eq4.false c.if-kind-ge192.false
