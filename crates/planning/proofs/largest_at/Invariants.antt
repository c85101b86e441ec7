-- `largest_at` doubles an open block until the double isn't open.
use Rattle.planning.proofs.Largest.{Grown}
use Rattle.planning.proofs.largest_at.Given as goal

abbrev pub invariant-loop-exponent : goal.invariant-loop-exponent
invariant-loop-exponent l = Grown l.held l.unit l.exponent l.width
