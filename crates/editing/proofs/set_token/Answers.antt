-- `set_token` is `with_ranges` with another token, once its length is judged.
use borrow.Author.Tests.{lt-ltb, le-ltb}
use Rattle.editing.specs.Edit.{token_set}
use Rattle.editing.proofs.set_token.Goals as goal

pub returns-then-range-gt-MAX_TOKEN : goal.returns-then-range-gt-MAX_TOKEN
unfolding token_set
returns-then-range-gt-MAX_TOKEN c =
    rw (lt-ltb _ _ c.if-range-gt-MAX_TOKEN.true)

pub returns : goal.returns
unfolding token_set
returns c =
    rw (le-ltb _ _ c.if-range-gt-MAX_TOKEN.false) c.with_ranges.ensures
