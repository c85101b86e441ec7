-- `gap_in`: what was passed, and what the rest has before `::`, is what the whole has.
use Prim.Native.Nat.{◌+◌, ◌-◌, ◌≤◌}
use mathlib.Core.Path.{◌≡◌}
use lib.ListN.{length, drop}
use Rattle.peer_reading.specs.Reading.{gap_in}
use Rattle.peer_reading.proofs.groups.gap_in.Given as goal

abbrev pub invariant-loop-i : goal.invariant-loop-i
invariant-loop-i l = (l.i ≤ length l.text) × (l.i + gap_in (drop l.i l.text) ≡ gap_in l.text)
