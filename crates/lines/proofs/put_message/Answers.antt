-- `put_message` meets its contract: the four parts, one after the other.
use Rattle.placing.proofs.Puts.{puts_puts}
use Rattle.lines.proofs.put_message.Goals as goal

pub returns : goal.returns
returns c =
    puts_puts (puts_puts (puts_puts c.put_header-next.ensures (rw c.get_token.ensures.result_value at c.put_bytes_line-next.ensures))
    c.put_options-next.ensures) (rw c.get_payload.ensures.result_value at c.put_bytes_line.ensures)
