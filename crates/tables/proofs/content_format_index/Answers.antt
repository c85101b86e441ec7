-- `content_format_index` is `find` in its table, whose entries are those of the definition.
use Rattle.tables.specs.Numbers.{content_formats}
use mathlib.Core.Path.{◌∙◌}
use Rattle.tables.proofs.Places.{place_found}
use Rattle.tables.proofs.content_format_index.Goals as goal

pub returns : goal.returns
unfolding content_formats
returns c = c.find.ensures ∙ place_found c.args.number content_formats
