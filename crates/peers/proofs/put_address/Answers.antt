-- `put_address` is safe and ends.
use mathlib.Core.Path.{sym, ◌∙◌}
use Rattle.placing.proofs.Puts.{puts_puts}
use Rattle.peers.proofs.put_address.Goals as goal

pub returns : goal.returns
returns c =
    rw (sym c.is_mapped.ensures ∙ c.if-is_mapped.false)
    (puts_puts c.put_byte-next.ensures (puts_puts c.put_groups-next.ensures c.put_byte.ensures))
