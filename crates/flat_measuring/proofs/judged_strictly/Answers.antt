-- `judged_strictly`: the tests in their order, which plain passes over.
use mathlib.Core.Path.{sym}
use borrow.Author.Tests.{lt-ltb, le-ltb, eq-eqb, ne_eqb}
use Rattle.measuring.specs.Measuring.{strictly}
use Rattle.unflat.specs.Unflat.{header_in, packet_in}
use Rattle.flat_measuring.proofs.judged_strictly.Goals as goal

pub returns-then-not-strict : goal.returns-then-not-strict
unfolding strictly packet_in header_in
returns-then-not-strict c = rw (c.if-not-strict.true)

pub returns-then-numbers-ne1 : goal.returns-then-numbers-ne1
unfolding strictly packet_in header_in
returns-then-numbers-ne1 c = rw (c.if-not-strict.false, ne_eqb _ _ c.if-numbers-ne1.true)

pub returns-then-numbers-gt8 : goal.returns-then-numbers-gt8
unfolding strictly packet_in header_in
returns-then-numbers-gt8 c = rw (c.if-not-strict.false, eq-eqb _ _ c.if-numbers-ne1.false, lt-ltb _ _ c.if-numbers-gt8.true)

pub returns-then-empty_carries : goal.returns-then-empty_carries
unfolding strictly packet_in header_in
returns-then-empty_carries c = rw (c.if-not-strict.false, eq-eqb _ _ c.if-numbers-ne1.false, le-ltb _ _ c.if-numbers-gt8.false, sym c.if-empty_carries.ensures)

pub returns : goal.returns
unfolding strictly packet_in header_in
returns c = rw (c.if-not-strict.false, eq-eqb _ _ c.if-numbers-ne1.false, le-ltb _ _ c.if-numbers-gt8.false, sym c.if-empty_carries.ensures)
