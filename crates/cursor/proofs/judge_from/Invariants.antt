-- `judge_from`: what the steps from each cursor on the way accept is what those from the first accept.
use mathlib.Core.Path.{◌≡◌}
use Rattle.cursor.specs.Walk.{accepting_from}
use Rattle.cursor.proofs.judge_from.Given as goal

abbrev pub invariant-loop-next : goal.invariant-loop-next
invariant-loop-next l = accepting_from l.datagram l.initial.cursor ≡ accepting_from l.datagram l.cursor

abbrev pub decreases-loop-next : goal.decreases-loop-next
decreases-loop-next l = l.cursor.left
