-- `is_free`: by the first byte, and for an entry by its time.
use Rattle.hearing.proofs.Places.{free_confirmable, free_non, free_unused}
use Rattle.hearing.proofs.is_free.Goals as goal

pub returns-then-first-eq1 : goal.returns-then-first-eq1
returns-then-first-eq1 c = free_confirmable _ _ _ _ c.if-first-eq1.true c.four_at.ensures.is

pub returns-then-first-eq2 : goal.returns-then-first-eq2
returns-then-first-eq2 c = free_non _ _ _ _ c.if-first-eq2.true c.four_at-then-first-eq2.ensures.is

pub returns : goal.returns
returns c = free_unused _ _ _ c.if-first-eq1.false c.if-first-eq2.false
