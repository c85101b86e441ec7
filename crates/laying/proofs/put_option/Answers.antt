-- `put_option`: what was judged, and then the parts.
use mathlib.Core.Path.{refl, sym, ◌∙◌}
use native.Mathlib.Omega.{arith}
use lib.ListN.{length}
use Rattle.std.proofs.lemmas.Result.{err_from_is_err_and}
use Rattle.laying.proofs.Laid.{lays_refused, lays_given, laid_judged, Judged, judged_given}
use Rattle.laying.proofs.Pieces.{option_delta}
use Rattle.laying.proofs.put_option.Goals as goal
use Rattle.laying.proofs.put_option.Goals.{In_ok-size}

judged_at : (c : In_ok-size) → Judged c.args.before c.args.number (length c.args.value.now) (length c.args.out.now) c.args.at c.in_ok-size.size
judged_at c = judged_given _ _ _ _ _ _ (sym c.in_ok-size.ensures)

pub overflow_sub-number : goal.overflow_sub-number
overflow_sub-number c = (judged_at (goal.at.overflow_sub-number c).In_ok-size).rises

pub put_parts-requires : goal.put_parts-requires
put_parts-requires c = let j = judged_at (goal.at.put_parts-requires c).In_ok-size in (omega arith, j.short, j.fits)

pub returns-in_err-size : goal.returns-in_err-size
returns-in_err-size c =
    let p = err_from_is_err_and c.from_residual.result c.from_residual.ensures.1 in
    rw (p.1, p.2) (lays_refused _ _ _ _ _ _ refl (laid_judged _ _ _ _ ∙ sym c.in_err-size.ensures))

pub returns : goal.returns
returns c = lays_given _ _ _ _ _ _ (laid_judged _ _ _ _ ∙ (sym c.in_ok-size.ensures)) (rw (option_delta _ _ _) at c.put_parts.ensures.out)
