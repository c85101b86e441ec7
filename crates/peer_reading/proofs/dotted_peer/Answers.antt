-- `dotted_peer`: a number that was taken is at most 255.
use native.Mathlib.Omega.{arith}
use Rattle.peer_reading.proofs.Numbered.{taken}
use Rattle.peer_reading.proofs.dotted_peer.Goals as goal

pub overflow_cast-a : goal.overflow_cast-a
overflow_cast-a c = omega (arith, (taken 46 255 c.args.text.now c.number_to.ensures c.ok_or.ensures.ok_part c.in_ok-a.was).small)
