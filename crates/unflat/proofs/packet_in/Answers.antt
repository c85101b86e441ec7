-- `packet_in`: numbers that are no flat form are refused, and else they have a packet.
use mathlib.Core.Path.{sym, ◌∙◌}
use native.Mathlib.Omega.{arith}
use Rattle.unflat.specs.Unflat.{unflat}
use Rattle.unflat.proofs.Unflat.{good}
use Rattle.unflat.proofs.packet_in.Goals as goal

pub returns-then-bad_flat : goal.returns-then-bad_flat
unfolding unflat
returns-then-bad_flat c = rw (sym c.bad_flat.ensures ∙ c.if-bad_flat.true)

pub bounds-numbers-10 : goal.bounds-numbers-10
bounds-numbers-10 c = omega (arith, (good _ (sym c.bad_flat.ensures ∙ c.if-bad_flat.false)).head)

pub returns-then-numbers-eq0 : goal.returns-then-numbers-eq0
unfolding unflat
returns-then-numbers-eq0 c =
    rw (sym c.bad_flat.ensures ∙ c.if-bad_flat.false, c.bare_packet.ensures)

pub returns : goal.returns
unfolding unflat
returns c =
    rw (sym c.bad_flat.ensures ∙ c.if-bad_flat.false, c.good_packet.ensures)
