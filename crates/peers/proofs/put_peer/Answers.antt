-- `put_peer` is safe and ends.
use Rattle.placing.proofs.Puts.{puts_puts}
use Rattle.peers.proofs.put_peer.Goals as goal

pub returns : goal.returns
returns c =
    puts_puts c.put_address-next.ensures
    (puts_puts c.put_byte-next.ensures (rw c.pair.ensures at c.put_decimal.ensures))
