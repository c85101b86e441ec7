-- `put_option` meets its contract: the number and then the value.
use Rattle.placing.proofs.Puts.{puts_puts}
use Rattle.lines.proofs.put_option.Goals as goal

pub returns : goal.returns
returns c = puts_puts c.put_number-next.ensures c.put_bytes_line.ensures
