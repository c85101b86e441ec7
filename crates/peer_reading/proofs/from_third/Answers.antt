-- `from_third`: a number that was taken is at most 255.
use native.Mathlib.Omega.{arith}
use Rattle.peer_reading.proofs.Numbered.{taken}
use Rattle.peer_reading.proofs.from_third.Goals as goal

pub overflow_cast-c : goal.overflow_cast-c
overflow_cast-c c = omega (arith, (taken 46 255 c.args.text.now c.number_to.ensures c.ok_or.ensures.ok_part c.in_ok-c.was).small)
