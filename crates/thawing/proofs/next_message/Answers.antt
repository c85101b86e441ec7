-- `next_message`: the message that is found, and its bytes copied.
use native.Mathlib.Omega.{arith}
use Rattle.stream.proofs.Walk.{whole_of}
use Rattle.thawing.proofs.Message.{whole_length, whole_inside, next_copied}
use Rattle.thawing.proofs.next_message.Goals as goal

pub overflow_add-at : goal.overflow_add-at
overflow_add-at c = omega (arith, whole_inside _ _ _ _ _ (whole_of _ _ _ _ _ c.in_ok-message.ensures))

pub copy_chunks-requires : goal.copy_chunks-requires
copy_chunks-requires c = whole_length _ _ _ _ _ (whole_of _ _ _ _ _ c.in_ok-message.ensures)

pub returns : goal.returns
returns c =
    next_copied _ _ _ _ _ (whole_of _ _ _ _ _ c.in_ok-message.ensures) _ _ _ _ (omega arith) c.copy_chunks.ensures
