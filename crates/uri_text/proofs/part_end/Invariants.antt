-- `part_end` meets its contract: the end is as far from here as from the start (`Seeking`).
use Prim.Native.Nat.{◌≤◌, max}
use lib.ListN.{length}
use Rattle.uri_text.proofs.Tallying.{Seeking}
use Rattle.uri_text.proofs.part_end.Given as goal

abbrev pub invariant-loop-end : goal.invariant-loop-end
invariant-loop-end l = (l.end ≤ max l.from (length l.text)) × Seeking l.separator l.text l.from l.end
