-- `option_at`: by the datagram's end.
use borrow.Author.Tests.{le-leb, lt-leb}
use Rattle.scanning.specs.Plain.{stands}
use Rattle.scanning.proofs.option_at.Goals as goal

pub returns-then-buf-idx : goal.returns-then-buf-idx
unfolding stands
returns-then-buf-idx c = rw (le-leb _ _ c.if-buf-idx.true)

pub returns : goal.returns
unfolding stands
returns c = rw (lt-leb _ _ c.if-buf-idx.false)
