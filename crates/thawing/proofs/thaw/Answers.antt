-- `thaw`: judged, measured, listed.
use mathlib.Core.Path.{refl}
use native.Mathlib.Omega.{arith}
use Rattle.std.proofs.lemmas.Result.{err_from_is_err_and}
use Rattle.thawing.proofs.Thawed.{counted, uncounted, thaw_refused, thaw_no_places, thaw_no_room, listing, thaw_done}
use Rattle.thawing.proofs.thaw.Goals as goal

pub returns-then-list-strict : goal.returns-then-list-strict
returns-then-list-strict c = thaw_no_places _ _ _ _ _ _ _ (counted _ _ _ _ _ _ c.in_ok-strict.ensures) (omega (arith, c.if-list-strict.true))

pub returns-then-out-strict : goal.returns-then-out-strict
returns-then-out-strict c = thaw_no_room _ _ _ _ _ _ _ (counted _ _ _ _ _ _ c.in_ok-strict.ensures) (omega (arith, c.if-list-strict.false)) c.if-out-strict.true

pub list_messages-requires : goal.list_messages-requires
list_messages-requires c = listing _ _ _ _ _ _ _ (counted _ _ _ _ _ _ c.in_ok-strict.ensures) (omega arith) (omega arith)

pub returns-in_err-strict : goal.returns-in_err-strict
returns-in_err-strict c =
    let p = err_from_is_err_and c.from_residual.result c.from_residual.ensures.1 in
    rw (p.1, p.2) (thaw_refused _ _ _ _ _ _ (uncounted _ _ _ _ c.in_err-strict.ensures) refl)

pub returns : goal.returns
returns c =
    thaw_done _ _ _ _ _ _ _ (counted _ _ _ _ _ _ c.in_ok-strict.ensures) _ _ (omega arith) (omega arith) c.list_messages.ensures.list_after c.list_messages.ensures.out_after
