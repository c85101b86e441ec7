-- `are_at`: what is left to compare decides.
use Rattle.hearing.proofs.Compared.{Compared}
use Rattle.hearing.proofs.are_at.Given as goal

abbrev pub invariant-loop-i : goal.invariant-loop-i
invariant-loop-i l = Compared l.s l.at l.bytes l.i
