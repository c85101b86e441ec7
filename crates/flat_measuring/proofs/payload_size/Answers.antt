-- `payload_size`: none that is dropped, none of no bytes, and else a marker before it.
use mathlib.Core.Path.{sym, ◌∙◌}
use native.Mathlib.Omega.{arith}
use lib.ListN.{get_or}
use borrow.Author.Tests.{lt-ltb}
use Rattle.measuring.specs.Measuring.{marker_size}
use Rattle.flat_measuring.proofs.payload_size.Goals as goal

pub returns-then-drops : goal.returns-then-drops
unfolding marker_size
returns-then-drops c = rw (sym c.drops.ensures ∙ c.if-drops.true)

pub returns-then-numbers-eq0 : goal.returns-then-numbers-eq0
unfolding marker_size
returns-then-numbers-eq0 c = rw (sym c.drops.ensures ∙ c.if-drops.false, c.if-numbers-eq0.true)

pub returns : goal.returns
unfolding marker_size
returns c = rw (sym c.drops.ensures ∙ c.if-drops.false, lt-ltb 0 (get_or c.args.numbers.now 9 0) (omega (arith, c.if-numbers-eq0.false)))
