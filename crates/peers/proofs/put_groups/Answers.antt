-- `put_groups` is safe and ends.
use borrow.Author.Tests.{ne_eqb}
use Rattle.placing.proofs.Puts.{puts_puts}
use Rattle.peers.proofs.put_groups.Goals as goal

pub returns : goal.returns
returns c =
    let l = c.longest-start.ensures.0 in
    rw (ne_eqb _ _ (rw l at c.if-start-eq8.false))
    (puts_puts (rw l at c.put_row-next.ensures)
    (puts_puts c.put_bytes-next.ensures (rw (c.run_end.ensures.0, l) at c.put_row-2.ensures)))
