-- `put_chunk`: head, bytes and padding one after the other.
use Rattle.placing.proofs.Puts.{puts_puts}
use Rattle.stream.specs.Stream.{chunk_of}
use Rattle.freezing.proofs.put_chunk.Goals as goal

pub returns : goal.returns
unfolding chunk_of
returns c =
    puts_puts c.put_head-after_head.ensures (puts_puts c.put_bytes-after_bytes.ensures (rw c.padding_of-unused.ensures at c.put_zeros.ensures))
