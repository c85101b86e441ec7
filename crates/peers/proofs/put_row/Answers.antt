-- `put_row` is safe and ends.
use Prim.Native.Nat.{◌-◌}
use native.Mathlib.Omega.{arith}
use Rattle.placing.proofs.Puts.{putting_turn, putting_end}
use Rattle.peers.proofs.Groups.{pieces_more, pieces_none}
use Rattle.peers.proofs.put_row.Goals as goal

pub loop-i-preserved : goal.loop-i-preserved
loop-i-preserved c =
    putting_turn c.loop-i.invariant (pieces_more _ _ _ c.loop-i.i (omega arith)) c.put_piece-next.ensures

pub returns : goal.returns
returns c = putting_end c.loop-i.invariant (pieces_none _ _ _ _ c.loop-i-test.false)
