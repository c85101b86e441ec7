-- `move_to_front`: the pieces before a place stand at the front, one more with each turn.
use Prim.Native.Nat.{ℕ, ◌+◌, ◌≤◌, ◌-◌}
use mathlib.Core.Path.{◌≡◌, refl, sym, ◌∙◌}
use native.Mathlib.Omega.{arith}
use lib.ListN.{length, take, length-replicate}
use lib.Seq.{sets, length-take-le, take-length}
use Rattle.ground.specs.Part.{part}
use Rattle.placing.proofs.Copy.{no_bytes}
use Rattle.placing.proofs.Puts.{puts_length}
use Rattle.moving.proofs.Moved.{part_size, at_most_lem, moved_more}
use Rattle.moving.proofs.move_to_front.Goals as goal

pub loop-i-preserved : goal.loop-i-preserved
loop-i-preserved c =
    let a = c.args in
    let few = at_most_lem _ _ _ c.min-count.ensures in
    let size = part_size a.bytes.now a.start a.end c.min-stop.result c.min-stop.ensures in
    let piece : a.start + c.loop-i.i + c.min-count.result - (a.start + c.loop-i.i) ≡ c.min-count.result = omega arith in (
      omega (arith, few.0),
      puts_length c.put_bytes.ensures ∙ c.loop-i.invariant.1,
      puts_length c.put_bytes-in-loop-i.ensures ∙ c.loop-i.invariant.2,
      moved_more a.bytes.now c.loop-i.bytes c.loop-i.held _ _ a.start (a.end - a.start) c.loop-i.i c.min-count.result _ _
          (omega (arith, size, few.0)) (omega (arith, c.loop-i.invariant.1, few.1)) c.loop-i.invariant.3 (rw piece at c.put_bytes.ensures) c.put_bytes-in-loop-i.ensures,
    )
