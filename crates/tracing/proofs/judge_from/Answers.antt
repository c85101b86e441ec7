-- `judge_from`: the walk over the messages keeps whether there is a value.
use Rattle.std.proofs.lemmas.Result.{err_from_is_err_and}
use Rattle.tracing.proofs.Judging.{rest_ends, rest_refused, rest_turn, measured}
use Rattle.tracing.specs.TimedMessages.{TimedFound}
use native.Mathlib.Omega.{arith}
use mathlib.Core.Path.{ap}
use Rattle.tracing.proofs.judge_from.Goals as goal

pub returns-in_err-at : goal.returns-in_err-at
returns-in_err-at c =
    let p = err_from_is_err_and c.from_residual.result c.from_residual.ensures.1 in
    rw (p.1, p.2) (rest_refused _ _ _ _ c.loop-at.invariant _ c.loop-at-test.true c.in_err-at.ensures)

pub loop-at-smaller : goal.loop-at-smaller
loop-at-smaller c = let o = measured _ _ _ _ _ _ c.in_ok-at.ensures in omega (arith, c.loop-at-test.true, o.stands.message.room, ap (λ (x : TimedFound). x.next) o.stands.value, o.next_is)

pub loop-at-preserved : goal.loop-at-preserved
loop-at-preserved c = rest_turn _ _ _ _ c.loop-at.invariant _ _ _ c.loop-at-test.true (measured _ _ _ _ _ _ c.in_ok-at.ensures)

pub returns : goal.returns
returns c = rest_ends _ _ _ _ c.loop-at.invariant c.loop-at-test.false
