-- `is_recognised` goes by the row of the number.
use mathlib.Core.Path.{sym, ◌∙◌}
use Rattle.register.specs.Register.{is_recognised}
use Rattle.register.proofs.row.is_recognised.Goals as goal

pub returns-in-Some : goal.returns-in-Some
unfolding is_recognised
returns-in-Some c = rw (sym c.row_of.ensures ∙ c.in-Some.is) c.recognises.ensures

pub returns-in-None : goal.returns-in-None
unfolding is_recognised
returns-in-None c = rw (sym c.row_of.ensures ∙ c.in-None.is)
