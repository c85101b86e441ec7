-- `judge_options`: the whole judgement is that of what is left, option by option.
use Prim.Native.Nat.{◌-◌}
use mathlib.Core.Path.{◌≡◌}
use Rattle.framing.specs.Judging.{options_judged}
use Rattle.framing.proofs.judge_options.Given as goal

abbrev pub invariant-loop-marked : goal.invariant-loop-marked
invariant-loop-marked l = options_judged l.rest 128 0 0 ≡ options_judged l.rest (128 - l.count) l.number l.idx

abbrev pub decreases-loop-marked : goal.decreases-loop-marked
decreases-loop-marked l = 128 - l.count
