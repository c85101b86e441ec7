-- `judge_from`: the walk over the messages keeps the whole answer.
use native.Mathlib.Omega.{arith}
use Rattle.std.proofs.lemmas.Result.{err_from_is_err_and}
use Rattle.stream.proofs.Walk.{stream_ends, stream_refused, stream_turn, whole_of}
use Rattle.stream.proofs.judge_from.Goals as goal

pub returns-in_err-message : goal.returns-in_err-message
returns-in_err-message c =
    let p = err_from_is_err_and c.from_residual.result c.from_residual.ensures.1 in
    rw (p.1, p.2) (stream_refused _ _ _ _ _ _ c.loop-at.invariant _ c.loop-at-test.true c.in_err-message.ensures)

pub overflow_add-bytes : goal.overflow_add-bytes
overflow_add-bytes c =
    let t = stream_turn _ _ _ _ _ _ c.loop-at.invariant _ _ c.loop-at-test.true c.in_ok-message.ensures in
    let w = whole_of _ _ _ _ _ c.in_ok-message.ensures in
    omega (arith, t.short, w.stands.inside, w.next_is)

pub loop-at-smaller : goal.loop-at-smaller
loop-at-smaller c =
    let w = whole_of _ _ _ _ _ c.in_ok-message.ensures in
    omega (arith, c.loop-at-test.true, w.stands.room, w.next_is)

pub loop-at-preserved : goal.loop-at-preserved
loop-at-preserved c =
    stream_turn _ _ _ _ _ _ c.loop-at.invariant _ _ c.loop-at-test.true c.in_ok-message.ensures

pub returns : goal.returns
returns c = stream_ends _ _ _ _ _ _ c.loop-at.invariant c.loop-at-test.false
