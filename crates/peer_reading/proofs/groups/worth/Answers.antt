-- `worth`: a character that is no digit counts 16, as its value is defined.
use mathlib.Core.Path.{sym, ◌∙◌}
use Rattle.peer_reading.proofs.Grouping.{no_digit_value}
use Rattle.peer_reading.proofs.groups.worth.Goals as goal

pub returns-in-None : goal.returns-in-None
returns-in-None c = no_digit_value _ (sym c.hex_value.ensures ∙ c.in-None.is)
