-- `list_messages`: once the messages that are left are listed and copied, all are.
use mathlib.Core.Path.{ap}
use native.Mathlib.Omega.{arith}
use Rattle.stream.specs.Answers.{step_read}
use Rattle.thawing.proofs.Listing.{list_start, list_ends, list_next, list_some}
use Rattle.thawing.proofs.list_messages.Goals as goal

pub loop-at-init : goal.loop-at-init
loop-at-init c = rw c.requires.are (list_start _ _ _ _ c.requires)

pub returns-in_default-clause-list_after : goal.returns-in_default-clause-list_after
returns-in_default-clause-list_after c =
    list_some _ _ _ _ _ _ _ _ _ _ c.loop-at.invariant c.loop-at-test.true _ _ _ c.next_message.ensures (ap step_read c.in_default.is)

pub returns-in_default-clause-out_after : goal.returns-in_default-clause-out_after
returns-in_default-clause-out_after c =
    list_some _ _ _ _ _ _ _ _ _ _ c.loop-at.invariant c.loop-at-test.true _ _ _ c.next_message.ensures (ap step_read c.in_default.is)

pub loop-at-smaller : goal.loop-at-smaller
loop-at-smaller c = omega (arith, c.loop-at-test.true, (list_next _ _ _ _ _ _ _ _ _ _ c.loop-at.invariant c.loop-at-test.true _ _ _ _ c.in-Ok.is c.next_message.ensures).onwards)

pub loop-at-preserved : goal.loop-at-preserved
loop-at-preserved c = (list_next _ _ _ _ _ _ _ _ _ _ c.loop-at.invariant c.loop-at-test.true _ _ _ _ c.in-Ok.is c.next_message.ensures).walk

pub returns-clause-list_after : goal.returns-clause-list_after
returns-clause-list_after c =
    let g = c.requires in
    (list_ends _ _ _ _ _ _ _ _ _ _ c.loop-at.invariant c.loop-at-test.false (rw g.are g.places_for) (rw g.are g.room_for)).0

pub returns-clause-out_after : goal.returns-clause-out_after
returns-clause-out_after c =
    let g = c.requires in
    (list_ends _ _ _ _ _ _ _ _ _ _ c.loop-at.invariant c.loop-at-test.false (rw g.are g.places_for) (rw g.are g.room_for)).1
