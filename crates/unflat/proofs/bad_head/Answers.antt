-- `bad_head`: one test after the other.
use borrow.Author.Tests.{lt-ltb, le-ltb}
use Rattle.unflat.specs.Unflat.{bad_head}
use Rattle.unflat.proofs.bad_head.Goals as goal

pub returns-then-numbers-gt255 : goal.returns-then-numbers-gt255
unfolding bad_head
returns-then-numbers-gt255 c = simp (lt-ltb _ _ c.if-numbers-gt255.true)

pub returns-then-numbers-gt3 : goal.returns-then-numbers-gt3
unfolding bad_head
returns-then-numbers-gt3 c = simp (le-ltb _ _ c.if-numbers-gt255.false, lt-ltb _ _ c.if-numbers-gt3.true)

pub returns-then-numbers-gt255-2 : goal.returns-then-numbers-gt255-2
unfolding bad_head
returns-then-numbers-gt255-2 c = simp (le-ltb _ _ c.if-numbers-gt255.false, le-ltb _ _ c.if-numbers-gt3.false, lt-ltb _ _ c.if-numbers-gt255-2.true)

pub returns-then-numbers-gt65535 : goal.returns-then-numbers-gt65535
unfolding bad_head
returns-then-numbers-gt65535 c = simp (le-ltb _ _ c.if-numbers-gt255.false, le-ltb _ _ c.if-numbers-gt3.false, le-ltb _ _ c.if-numbers-gt255-2.false, lt-ltb _ _ c.if-numbers-gt65535.true)

pub returns-then-numbers-gt1 : goal.returns-then-numbers-gt1
unfolding bad_head
returns-then-numbers-gt1 c = simp (le-ltb _ _ c.if-numbers-gt255.false, le-ltb _ _ c.if-numbers-gt3.false, le-ltb _ _ c.if-numbers-gt255-2.false, le-ltb _ _ c.if-numbers-gt65535.false, lt-ltb _ _ c.if-numbers-gt1.true)

pub returns-then-numbers-gt1-2 : goal.returns-then-numbers-gt1-2
unfolding bad_head
returns-then-numbers-gt1-2 c = simp (le-ltb _ _ c.if-numbers-gt255.false, le-ltb _ _ c.if-numbers-gt3.false, le-ltb _ _ c.if-numbers-gt255-2.false, le-ltb _ _ c.if-numbers-gt65535.false, le-ltb _ _ c.if-numbers-gt1.false, lt-ltb _ _ c.if-numbers-gt1-2.true)

pub returns : goal.returns
unfolding bad_head
returns c = simp (le-ltb _ _ c.if-numbers-gt255.false, le-ltb _ _ c.if-numbers-gt3.false, le-ltb _ _ c.if-numbers-gt255-2.false, le-ltb _ _ c.if-numbers-gt65535.false, le-ltb _ _ c.if-numbers-gt1.false, le-ltb _ _ c.if-numbers-gt1-2.false)
