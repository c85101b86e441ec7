-- `move_to_front`: the pieces before a place stand at the front, one more with each turn.
use Prim.Native.Nat.{ℕ, ◌+◌, ◌≤◌, ◌-◌}
use mathlib.Core.Path.{◌≡◌, refl, sym, ◌∙◌}
use native.Mathlib.Omega.{arith}
use lib.ListN.{length, take, length-replicate}
use lib.Seq.{sets, length-take-le, take-length}
use Rattle.ground.specs.Part.{part}
use Rattle.placing.proofs.Copy.{no_bytes}
use Rattle.placing.proofs.Puts.{puts_length}
use Rattle.moving.proofs.Moved.{part_size, at_most_lem, moved_more}
use Rattle.moving.proofs.move_to_front.Given as goal

abbrev pub invariant-loop-i : goal.invariant-loop-i
invariant-loop-i l =
    (l.i ≤ l.all) × (length l.held ≡ 4096) × (length l.bytes ≡ length l.initial.bytes) × (l.bytes ≡ sets l.initial.bytes 0 (take l.i (part l.initial.bytes l.start (l.end - l.start))))

abbrev pub decreases-loop-i : goal.decreases-loop-i
decreases-loop-i l = l.all - l.i
