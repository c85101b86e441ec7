-- `gap_in`: what was passed, and what the rest has before `::`, is what the whole has.
use mathlib.Core.Path.{sym, ◌∙◌}
use native.Mathlib.Omega.{arith}
use Rattle.peer_reading.proofs.Grouping.{gap_found, gap_later, gap_end}
use Prim.Native.Nat.{◌-◌}
use Rattle.peer_reading.proofs.groups.gap_in.Goals as goal

pub returns-then-colons_at : goal.returns-then-colons_at
returns-then-colons_at c = omega (arith, c.loop-i.invariant.1, gap_found c.args.text.now c.loop-i.i (omega arith) (sym c.colons_at.ensures ∙ c.if-colons_at.true))

pub loop-i-preserved : goal.loop-i-preserved
loop-i-preserved c = (omega arith, omega (arith, c.loop-i.invariant.1, gap_later c.args.text.now c.loop-i.i (omega arith) (sym c.colons_at.ensures ∙ c.if-colons_at.false)))

pub returns : goal.returns
returns c = omega (arith, c.loop-i.invariant.1, gap_end c.args.text.now c.loop-i.i (omega arith))
