-- `clear_option` is `set_option` with no ranges.
use mathlib.Core.Path.{ap, ◌∙◌}
use Rattle.refusal.specs.Answer.{beside}
use Rattle.editing.proofs.Made.{cleared_set}
use Rattle.editing.proofs.clear_option.Goals as goal

pub returns : goal.returns
returns c =
    let a = c.args in
    c.set_option.ensures ∙ ap (beside a.packet) (cleared_set a.packet a.number)
