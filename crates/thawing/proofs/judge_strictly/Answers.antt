-- `judge_strictly`: the walk over the messages keeps the whole answer.
use mathlib.Core.Path.{sym}
use native.Mathlib.Omega.{arith}
use Rattle.thawing.proofs.Accepting.{accepted}
use Rattle.thawing.proofs.Judging.{strict_ends, strict_turn, strict_room}
use Rattle.thawing.proofs.judge_strictly.Goals as goal

pub overflow_add-bytes : goal.overflow_add-bytes
overflow_add-bytes c =
    let o = accepted _ _ _ _ _ (sym c.in-Ok.ensures) in
    omega (arith, c.loop-at.invariant.short, strict_room _ _ _ _ _ _ _ c.loop-at.invariant _ _ c.loop-at-test.true o, o.whole.stands.inside, o.whole.next_is)

pub loop-at-smaller : goal.loop-at-smaller
loop-at-smaller c =
    omega (arith, c.loop-at-test.true, strict_room _ _ _ _ _ _ _ c.loop-at.invariant _ _ c.loop-at-test.true (accepted _ _ _ _ _ (sym c.in-Ok.ensures)))

pub loop-at-preserved : goal.loop-at-preserved
loop-at-preserved c =
    strict_turn _ _ _ _ _ _ _ c.loop-at.invariant _ _ c.loop-at-test.true (accepted _ _ _ _ _ (sym c.in-Ok.ensures)) _ c.chunk_count-chunks.ensures

pub returns : goal.returns
returns c = strict_ends _ _ _ _ _ _ _ c.loop-at.invariant c.loop-at-test.false
