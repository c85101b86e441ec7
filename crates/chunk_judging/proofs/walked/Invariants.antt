-- `walked`: the whole judgement is that of what is left, option by option.
use Prim.Native.Nat.{◌-◌}
use mathlib.Core.Path.{◌≡◌}
use Rattle.framing.specs.Judging.{options_judged}
use Rattle.chunk_judging.specs.Walk.{bytes_of}
use Rattle.chunk_judging.proofs.walked.Given as goal

abbrev pub invariant-loop-marked : goal.invariant-loop-marked
invariant-loop-marked l = options_judged (bytes_of l.d) 128 0 l.start ≡ options_judged (bytes_of l.d) (128 - l.count) l.number l.idx

abbrev pub decreases-loop-marked : goal.decreases-loop-marked
decreases-loop-marked l = 128 - l.count
