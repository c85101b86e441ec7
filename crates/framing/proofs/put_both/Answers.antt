-- `put_both`: two pieces that fit are put whole, one after the other.
use native.Mathlib.Omega.{arith}
use lib.ListN.{length-append}
use Rattle.placing.proofs.Puts.{puts_puts, puts_fits}
use Rattle.framing.proofs.put_both.Goals as goal

pub returns : goal.returns
returns c = let n = puts_fits (puts_puts c.put_bytes-next.ensures c.put_bytes.ensures) (rw length-append (omega (arith, c.if-out-front.false))) in record { answer = n.0; output = n.1 }
