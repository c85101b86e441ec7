-- `option_index` is `find` in its table, whose entries are those of the definition.
use Rattle.tables.specs.Numbers.{option_numbers}
use mathlib.Core.Path.{◌∙◌}
use Rattle.tables.proofs.Places.{place_found}
use Rattle.tables.proofs.option_index.Goals as goal

pub returns : goal.returns
unfolding option_numbers
returns c = c.find.ensures ∙ place_found c.args.number option_numbers
