-- `put_bytes_line` meets its contract: the word, the bytes, the end.
use Rattle.placing.proofs.Puts.{puts_puts}
use Rattle.lines.proofs.put_bytes_line.Goals as goal

pub returns : goal.returns
returns c =
    puts_puts (puts_puts c.put_bytes-next.ensures c.put_hex-next.ensures)
    c.put_byte.ensures
