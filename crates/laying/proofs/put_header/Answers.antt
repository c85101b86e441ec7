-- `put_header`: the tests in their order, then the raw header and the token.
use mathlib.Core.Path.{refl}
use borrow.Author.Tests.{lt-ltb, le-ltb}
use Rattle.laying.specs.Laying.{laid_header}
use Rattle.laying.proofs.Laid.{lays_refused, header_full, head_put}
use Rattle.laying.proofs.put_header.Goals as goal

pub returns-then-header-gt3 : goal.returns-then-header-gt3
unfolding laid_header
returns-then-header-gt3 c = lays_refused _ _ _ _ 11 _ refl (rw (lt-ltb _ _ c.if-header-gt3.true))

pub returns-then-token : goal.returns-then-token
unfolding laid_header
returns-then-token c = lays_refused _ _ _ _ 11 _ refl (rw (le-ltb _ _ c.if-header-gt3.false, lt-ltb _ _ c.if-token.true))

pub returns-then-out-token : goal.returns-then-out-token
returns-then-out-token c = lays_refused _ _ _ _ 12 _ refl (header_full _ _ _ c.if-header-gt3.false c.if-token.false c.if-out-token.true)

pub returns : goal.returns
returns c = head_put _ _ _ _ _ _ c.if-header-gt3.false c.if-token.false c.if-out-token.false (rw c.to_raw-raw.ensures at c.serialize_into.ensures.out_after) c.put_bytes.ensures
