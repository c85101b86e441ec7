-- `opening`: the length, the header, and what follows it.
use mathlib.Core.Path.{sym}
use Rattle.std.proofs.lemmas.Result.{err_from_is_err_and}
use borrow.Author.Tests.{lt-ltb, le-ltb}
use Rattle.reading.specs.Headed.{headed}
use Rattle.reading.proofs.opening.Goals as goal

pub returns-then-buf-gt-MAX_STORE : goal.returns-then-buf-gt-MAX_STORE
unfolding headed
returns-then-buf-gt-MAX_STORE c = rw (lt-ltb _ _ c.if-buf-gt-MAX_STORE.true)

pub returns-in_err-raw : goal.returns-in_err-raw
unfolding headed
returns-in_err-raw c =
    let p = err_from_is_err_and c.from_residual.result c.from_residual.ensures.1 in
    rw (p.1, p.2, le-ltb _ _ c.if-buf-gt-MAX_STORE.false, sym c.in_err-raw.ensures)

pub returns : goal.returns
unfolding headed
returns c =
    rw (le-ltb _ _ c.if-buf-gt-MAX_STORE.false, sym c.in_ok-raw.ensures) c.after_header.ensures
