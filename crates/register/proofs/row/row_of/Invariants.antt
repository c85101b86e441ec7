-- `row_of` gives the row of a number: what is left of the rows has the answer for all of them.
use mathlib.Core.Path.{◌≡◌}
use lib.ListN.{drop}
use Rattle.register.specs.Register.{register, row_in}
use Rattle.register.proofs.row.row_of.Given as goal

abbrev pub invariant-loop-row : goal.invariant-loop-row
invariant-loop-row l = row_in l.number register ≡ row_in l.number (drop l.row-index register)
