-- `put_message`: kind 1, the peer, the chunks, kind 3.
use Rattle.placing.proofs.Puts.{puts_puts}
use Rattle.stream.specs.Stream.{message_of}
use Rattle.freezing.proofs.put_message.Goals as goal

pub returns : goal.returns
unfolding message_of
returns c =
    puts_puts c.put_byte-after_kind.ensures (puts_puts c.put_bytes-after_peer.ensures (puts_puts c.put_chunks-after_chunks.ensures c.put_byte.ensures))
