-- `arrival_at`: the message that was measured, and what stands in it.
use Rattle.tracing.proofs.Arrivals.{peer_there, header_there, arrives}
use Rattle.tracing.proofs.Judging.{measured}
use native.Mathlib.Omega.{arith}
use Rattle.tracing.proofs.arrival_at.Goals as goal

pub overflow_add-at : goal.overflow_add-at
overflow_add-at c = let o = measured _ _ _ _ _ _ c.in_ok-timed.ensures in omega (arith, header_there _ _ _ o.stands.found o.stands.message)

pub overflow_add-at-2 : goal.overflow_add-at-2
overflow_add-at-2 c = let o = measured _ _ _ _ _ _ c.in_ok-timed.ensures in omega (arith, header_there _ _ _ o.stands.found o.stands.message, c.head_of.ensures)

pub header_at-raw-requires : goal.header_at-raw-requires
header_at-raw-requires c = let o = measured _ _ _ _ _ _ c.in_ok-timed.ensures in omega (arith, header_there _ _ _ o.stands.found o.stands.message, c.head_of.ensures)

pub overflow_add-at-3 : goal.overflow_add-at-3
overflow_add-at-3 c = let o = measured _ _ _ _ _ _ c.in_ok-timed.ensures in omega (arith, peer_there _ _ _ o.stands.found o.stands.message)

pub peer_at-peer-requires : goal.peer_at-peer-requires
peer_at-peer-requires c = let o = measured _ _ _ _ _ _ c.in_ok-timed.ensures in omega (arith, peer_there _ _ _ o.stands.found o.stands.message)

pub returns : goal.returns
returns c =
    arrives _ _ _ _ _ _ (measured _ _ _ _ _ _ c.in_ok-timed.ensures) c.header_at-raw.result (rw c.head_of.ensures at c.header_at-raw.ensures) _ c.from_number-kind.ensures _ c.peer_at-peer.ensures
