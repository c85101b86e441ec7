-- `is_content_format` says whether the number has a place, which is whether it is listed.
use mathlib.Core.Path.{ap, ◌∙◌}
use Rattle.std.specs.Prelude.{is_some}
use Rattle.tables.specs.Numbers.{content_formats}
use Rattle.tables.proofs.Places.{place_listed}
use Rattle.tables.proofs.is_content_format.Goals as goal

pub returns : goal.returns
returns c = c.is_some.ensures ∙ ap is_some c.content_format_index.ensures ∙ place_listed 0 _ content_formats
