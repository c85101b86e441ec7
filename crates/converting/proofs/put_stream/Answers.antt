-- `put_stream`: once the messages that are left are put, all are.
use mathlib.Core.Path.{refl}
use native.Mathlib.Omega.{arith}
use borrow.Author.Rules.{rules}
use Rattle.std.specs.Prelude.{Ok, Err}
use Rattle.converting.proofs.Putting.{put_start, put_ends, put_some, put_given, put_turn}
use Rattle.converting.proofs.put_stream.Goals as goal

pub loop-at-init : goal.loop-at-init
loop-at-init c = rw c.requires.are (put_start _ _ _ _ _ refl c.requires)

pub returns-in_default : goal.returns-in_default
returns-in_default c =
    put_some _ _ _ _ _ _ _ _ _ c.loop-at.invariant c.loop-at-test.true (Err c.in_default.field-0) _ _ c.in_default.ensures refl

pub slice_bounds-put_message-end : goal.slice_bounds-put_message-end
slice_bounds-put_message-end c =
    let g = (put_given _ _ _ _ _ _ _ _ _ c.loop-at.invariant c.loop-at-test.true (Ok c.in-Ok.message) _ _ _ refl c.in-Ok.ensures) in
    let h = g.inside in
    search rules

pub loop-at-smaller : goal.loop-at-smaller
loop-at-smaller c =
    let g = (put_given _ _ _ _ _ _ _ _ _ c.loop-at.invariant c.loop-at-test.true (Ok c.in-Ok.message) _ _ _ refl c.in-Ok.ensures) in
    omega (arith, c.loop-at-test.true, g.onwards)

pub loop-at-preserved : goal.loop-at-preserved
loop-at-preserved c =
    let g = (put_given _ _ _ _ _ _ _ _ _ c.loop-at.invariant c.loop-at-test.true (Ok c.in-Ok.message) _ _ _ refl c.in-Ok.ensures) in
    put_turn _ _ _ _ _ _ _ _ _ c.loop-at.invariant c.loop-at-test.true _ _ _ _ _ _ _ g g.peer g.front c.put_message-place.ensures

pub returns : goal.returns
returns c =
    let g = c.requires in
    put_ends _ _ _ _ _ _ _ _ _ c.loop-at.invariant c.loop-at-test.false (rw g.are g.room_for)
