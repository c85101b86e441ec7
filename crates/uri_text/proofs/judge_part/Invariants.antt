-- `judge_part` meets its contract: the whole is judged as what is left (`Judging`).
use Prim.Native.Nat.{◌-◌}
use lib.ListN.{length}
use Rattle.percent.specs.Step.{kind_of}
use Rattle.uri_text.proofs.Judging.{Judging}
use Rattle.uri_text.proofs.judge_part.Given as goal

abbrev pub invariant-loop-step : goal.invariant-loop-step
invariant-loop-step l = Judging (kind_of l.kind) l.index l.part l.due.count l.due.low l.due.high l.only l.len l.i

abbrev pub decreases-loop-step : goal.decreases-loop-step
decreases-loop-step l = length l.part - l.i
