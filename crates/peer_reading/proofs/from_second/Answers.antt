-- `from_second`: a number that was taken is at most 255.
use native.Mathlib.Omega.{arith}
use Rattle.peer_reading.proofs.Numbered.{taken}
use Rattle.peer_reading.proofs.from_second.Goals as goal

pub overflow_cast-b : goal.overflow_cast-b
overflow_cast-b c = omega (arith, (taken 46 255 c.args.text.now c.number_to.ensures c.ok_or.ensures.ok_part c.in_ok-b.was).small)
