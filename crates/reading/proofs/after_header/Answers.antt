-- `after_header`: one test after the other.
use mathlib.Core.Path.{sym, ◌∙◌}
use borrow.Author.Tests.{lt-ltb, le-ltb}
use Rattle.reading.specs.Headed.{good_header}
use Rattle.reading.proofs.after_header.Goals as goal

pub returns-then-wrong_version : goal.returns-then-wrong_version
unfolding good_header
returns-then-wrong_version c = rw (sym c.token_length-token_length.ensures, sym c.version.ensures, sym c.wrong_version.ensures ∙ c.if-wrong_version.true)

pub returns-then-token_length-gt8 : goal.returns-then-token_length-gt8
unfolding good_header
returns-then-token_length-gt8 c =
    rw (sym c.token_length-token_length.ensures, sym c.version.ensures, sym c.wrong_version.ensures ∙ c.if-wrong_version.false, lt-ltb _ _ c.if-token_length-gt8.true)

pub returns-then-buf-token_length : goal.returns-then-buf-token_length
unfolding good_header
returns-then-buf-token_length c =
    rw (sym c.token_length-token_length.ensures, sym c.version.ensures, sym c.wrong_version.ensures ∙ c.if-wrong_version.false, le-ltb _ _ c.if-token_length-gt8.false, lt-ltb _ _ c.if-buf-token_length.true)

pub returns-then-empty_carries : goal.returns-then-empty_carries
unfolding good_header
returns-then-empty_carries c =
    rw (sym c.token_length-token_length.ensures, sym c.version.ensures, sym c.wrong_version.ensures ∙ c.if-wrong_version.false, le-ltb _ _ c.if-token_length-gt8.false, le-ltb _ _ c.if-buf-token_length.false, sym c.empty_carries.ensures ∙ c.if-empty_carries.true)

pub returns : goal.returns
unfolding good_header
returns c =
    rw (sym c.token_length-token_length.ensures, sym c.version.ensures, sym c.wrong_version.ensures ∙ c.if-wrong_version.false, le-ltb _ _ c.if-token_length-gt8.false, le-ltb _ _ c.if-buf-token_length.false, sym c.empty_carries.ensures ∙ c.if-empty_carries.false)
