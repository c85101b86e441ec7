-- `put_dotted` is safe and ends.
use Rattle.placing.proofs.Puts.{puts_puts}
use Rattle.peers.proofs.put_dotted.Goals as goal

pub returns : goal.returns
returns c = puts_puts c.put_decimal-next.ensures (puts_puts c.put_byte-next.ensures (puts_puts c.put_decimal-next-2.ensures (puts_puts c.put_byte-next-2.ensures (puts_puts c.put_decimal-next-3.ensures (puts_puts c.put_byte-next-3.ensures c.put_decimal.ensures)))))
