-- `put_row` is safe and ends.
use Prim.Native.Nat.{◌-◌}
use Rattle.placing.proofs.Puts.{Putting}
use Rattle.peers.specs.Text.{row, pieces}
use Rattle.peers.proofs.put_row.Given as goal

abbrev pub invariant-loop-i : goal.invariant-loop-i
invariant-loop-i l = Putting l.initial.out l.at (row l.peer l.from l.to) l.out l.next (pieces l.peer l.from (l.to - l.i) l.i)
