-- `put_number` meets its contract: the word and then the number.
use Rattle.placing.proofs.Puts.{puts_puts}
use Rattle.lines.proofs.put_number.Goals as goal

pub returns : goal.returns
returns c = puts_puts c.put_bytes-next.ensures c.put_decimal.ensures
