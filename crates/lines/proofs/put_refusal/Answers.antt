-- `put_refusal` meets its contract: the number and then the end.
use Rattle.placing.proofs.Puts.{puts_puts}
use Rattle.lines.proofs.put_refusal.Goals as goal

pub returns : goal.returns
returns c =
    puts_puts (rw c.number.ensures at c.put_number-next.ensures) c.put_byte.ensures
