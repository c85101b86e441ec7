-- `part_in`: each return by the test of the end.
use Rattle.packet.specs.Packet.{bytes_in}
use native.Mathlib.Nat.{add-sub_cancel_left}
use borrow.Author.Tests.{le-leb, lt-leb}
use Rattle.packet.proofs.part_in.Goals as goal

pub returns-then-store-end-clause-result_value : goal.returns-then-store-end-clause-result_value
unfolding bytes_in
returns-then-store-end-clause-result_value c = rw (lt-leb _ _ c.if-store-end.true)

pub returns-clause-result_value : goal.returns-clause-result_value
unfolding bytes_in
returns-clause-result_value c = rw (le-leb _ _ c.if-store-end.false, add-sub_cancel_left)
