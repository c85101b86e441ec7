-- `hear_listed`: 21, then 12 for the listing, then the call itself.
use Rattle.hearing.proofs.Going.{called_back, called_full, called_heard}
use Rattle.replaying.proofs.hear_listed.Goals as goal

pub returns-then-time-before : goal.returns-then-time-before
returns-then-time-before c = called_back _ _ _ _ c.if-time-before.true

pub returns-then-room-eq0 : goal.returns-then-room-eq0
returns-then-room-eq0 c = called_full _ _ _ _ c.if-room-eq0.true c.if-time-before.false

pub returns : goal.returns
returns c = called_heard _ _ _ _ c.if-room-eq0.false _ _ c.hear.ensures
