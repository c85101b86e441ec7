-- `byte_at` meets its contract: test by test.
use mathlib.Core.Path.{refl, sym, ◌∙◌}
use borrow.Author.Tests.{le-leb, lt-leb, eq-eqb, ne_eqb}
use Rattle.percent.specs.Step.{step_at}
use Rattle.percent.proofs.byte_at.Goals as goal

pub returns-then-part-i : goal.returns-then-part-i
unfolding step_at
returns-then-part-i c = rw (le-leb _ _ c.if-part-i.true) refl

pub returns-then-byte-eq37 : goal.returns-then-byte-eq37
unfolding step_at
returns-then-byte-eq37 c = rw (lt-leb _ _ c.if-part-i.false, eq-eqb _ 0x25 c.if-byte-eq37.true) c.percent_at.ensures

pub returns-then-is_literal : goal.returns-then-is_literal
unfolding step_at
returns-then-is_literal c = rw (lt-leb _ _ c.if-part-i.false, ne_eqb _ 0x25 c.if-byte-eq37.false, sym c.is_literal.ensures ∙ c.if-is_literal.true) refl

pub returns : goal.returns
unfolding step_at
returns c = rw (lt-leb _ _ c.if-part-i.false, ne_eqb _ 0x25 c.if-byte-eq37.false, sym c.is_literal.ensures ∙ c.if-is_literal.false) refl
