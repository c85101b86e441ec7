-- `put_piece` is safe and ends.
use Rattle.placing.proofs.Puts.{puts_puts}
use Rattle.peers.proofs.put_piece.Goals as goal

pub returns : goal.returns
returns c = puts_puts c.put_colon-next.ensures (rw c.group_of.ensures at c.put_group.ensures)
