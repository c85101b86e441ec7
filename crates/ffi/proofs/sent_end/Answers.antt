-- `sent_end`: one test after the other.
use borrow.Author.Tests.{le-leb, lt-leb, eq-eqb, ne_eqb}
use Rattle.ffi.specs.Copied.{sent_end}
use Rattle.ffi.proofs.sent_end.Goals as goal

pub returns-then-datagram-payload : goal.returns-then-datagram-payload
unfolding sent_end
returns-then-datagram-payload c = rw (le-leb _ _ c.if-datagram-payload.true)

pub returns-then-datagram-eq0 : goal.returns-then-datagram-eq0
unfolding sent_end
returns-then-datagram-eq0 c = rw (lt-leb _ _ c.if-datagram-payload.false, eq-eqb _ _ c.if-datagram-eq0.true)

pub returns : goal.returns
unfolding sent_end
returns c = rw (lt-leb _ _ c.if-datagram-payload.false, ne_eqb _ _ c.if-datagram-eq0.false)
