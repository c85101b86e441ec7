-- `bad_flat`: the head, then the records.
use mathlib.Core.Path.{sym, ◌∙◌}
use native.Mathlib.Omega.{arith}
use Rattle.unflat.specs.Unflat.{bad_flat}
use Rattle.unflat.proofs.Unflat.{framed}
use Rattle.unflat.proofs.bad_flat.Goals as goal

pub returns-then-bad_frame : goal.returns-then-bad_frame
unfolding bad_flat
returns-then-bad_frame c = simp (sym c.bad_frame.ensures ∙ c.if-bad_frame.true)

pub bounds-numbers-10 : goal.bounds-numbers-10
bounds-numbers-10 c = omega (arith, (framed _ (sym c.bad_frame.ensures ∙ c.if-bad_frame.false)).head)

pub bad_numbers-requires : goal.bad_numbers-requires
bad_numbers-requires c = (framed _ (sym c.bad_frame.ensures ∙ c.if-bad_frame.false)).records

pub returns : goal.returns
unfolding bad_flat
returns c = simp (sym c.bad_frame.ensures ∙ c.if-bad_frame.false) c.bad_numbers.ensures
