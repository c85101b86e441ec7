-- `put_header` meets its contract: the four parts and the end, one after the other.
use Rattle.placing.proofs.Puts.{puts_puts}
use Rattle.lines.proofs.put_header.Goals as goal

pub returns : goal.returns
returns c =
    puts_puts (puts_puts (puts_puts (puts_puts c.put_number-next.ensures (rw c.to_number.ensures at c.put_number-next-2.ensures))
    c.put_code-next.ensures) c.put_number-next-3.ensures) c.put_byte.ensures
