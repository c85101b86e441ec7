-- `Builder::start`: what was judged, and then header and token by their own answer.
use mathlib.Core.Path.{refl, sym}
use Rattle.std.proofs.lemmas.Result.{err_from_is_err_and}
use Rattle.building.proofs.Calls.{start_refused, start_by}
use Rattle.building.proofs.Builder.start.Goals as goal

pub returns-in_err-judged_start : goal.returns-in_err-judged_start
returns-in_err-judged_start c =
    let p = err_from_is_err_and c.from_residual.result c.from_residual.ensures.1 in
    rw (p.1, p.2) (start_refused _ _ _ _ _ _ refl (sym c.in_err-judged_start.ensures))

pub returns-in_err-at : goal.returns-in_err-at
returns-in_err-at c =
    let p = err_from_is_err_and c.from_residual-in_err-at.result c.from_residual-in_err-at.ensures.1 in
    rw (p.1, p.2) (start_by _ _ _ (sym c.in_ok-judged_start.ensures) _ _ _ c.put_header.ensures _ (rw c.in_err-at.was))

pub returns : goal.returns
returns c = start_by _ _ _ (sym c.in_ok-judged_start.ensures) _ _ _ c.put_header.ensures _ (rw (c.is_empty-empty.ensures, c.in_ok-at.was))
