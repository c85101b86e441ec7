-- `set_payload` is `with_ranges` with another payload.
use Rattle.editing.specs.Edit.{payload_set}
use Rattle.editing.proofs.set_payload.Goals as goal

pub returns : goal.returns
unfolding payload_set
returns c =
    c.with_ranges.ensures
