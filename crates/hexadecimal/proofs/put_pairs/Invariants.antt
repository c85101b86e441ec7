-- `put_pairs` meets its contract: once the bytes of the pairs that are left are put, all are.
use Prim.Native.Nat.{◌*◌}
use lib.ListN.{drop}
use Rattle.placing.proofs.Puts.{Putting}
use Rattle.hexadecimal.specs.Hex.{pairs}
use Rattle.hexadecimal.proofs.put_pairs.Given as goal

abbrev pub invariant-loop-i : goal.invariant-loop-i
invariant-loop-i l = Putting l.initial.out l.at (pairs l.text) l.out l.next (pairs (drop (2 * l.i) l.text))
