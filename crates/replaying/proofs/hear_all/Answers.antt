-- `hear_all`: what was listed, and what the calls that are left will leave, make the whole.
use Rattle.replaying.proofs.Walk.{walk_ends, walk_never, walk_onward, walk_stops, walk_place, walk_turn}
use Rattle.hearing.specs.Hearing.{heard_of}
use native.Mathlib.Omega.{arith}
use mathlib.Core.Path.{ap}
use Rattle.replaying.proofs.hear_all.Goals as goal

pub returns-in-Err-hear_listed : goal.returns-in-Err-hear_listed
returns-in-Err-hear_listed c = walk_stops _ _ _ _ _ _ _ _ _ _ c.loop-at.invariant c.loop-at-test.true _ c.in-Ok.ensures _ _ c.hear_listed.ensures _ (ap heard_of c.in-Err-hear_listed.is)

pub bounds-listing-count : goal.bounds-listing-count
bounds-listing-count c = walk_place _ _ _ _ _ _ _ _ _ _ c.loop-at.invariant c.loop-at-test.true _ c.in-Ok.ensures _ _ c.hear_listed.ensures _ (ap heard_of c.in-Ok-hear_listed.is)

pub loop-at-smaller : goal.loop-at-smaller
loop-at-smaller c = omega (arith, c.loop-at-test.true, walk_onward _ _ _ _ _ _ _ _ _ _ c.loop-at.invariant c.loop-at-test.true _ c.in-Ok.ensures)

pub loop-at-preserved : goal.loop-at-preserved
loop-at-preserved c = walk_turn _ _ _ _ _ _ _ _ _ _ c.loop-at.invariant c.loop-at-test.true _ c.in-Ok.ensures _ _ c.hear_listed.ensures _ (ap heard_of c.in-Ok-hear_listed.is) _ c.letter.ensures

pub returns : goal.returns
returns c = walk_ends _ _ _ _ _ _ _ _ _ _ c.loop-at.invariant c.loop-at-test.false

pub returns-in-Err : goal.returns-in-Err
returns-in-Err c = walk_never _ _ _ _ _ _ _ _ _ _ c.loop-at.invariant c.loop-at-test.true _ c.in-Err.ensures
