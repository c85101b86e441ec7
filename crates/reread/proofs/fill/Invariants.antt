-- `fill` ends: a read of nothing ends it, so that each turn fills more of the window.
use Rattle.std.proofs.Common.{length, ◌-◌}
use Rattle.reread.proofs.fill.Given as goal

abbrev pub decreases-loop-count : goal.decreases-loop-count
decreases-loop-count g l = length l.initial.window - l.count
