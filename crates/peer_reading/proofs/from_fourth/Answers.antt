-- `from_fourth`: a number that was taken is at most 255.
use native.Mathlib.Omega.{arith}
use Rattle.peer_reading.proofs.Numbered.{taken}
use Rattle.peer_reading.proofs.from_fourth.Goals as goal

pub overflow_cast-d : goal.overflow_cast-d
overflow_cast-d c = omega (arith, (taken 58 255 c.args.text.now c.number_to.ensures c.ok_or.ensures.ok_part c.in_ok-d.was).small)
