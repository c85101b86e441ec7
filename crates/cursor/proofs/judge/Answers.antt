-- `judge`: a start that is refused decides, and else the steps do.
use Rattle.std.proofs.Common.{sym, ◌∙◌, arith}
use Rattle.std.proofs.lemmas.Result.{err_from_is_err_and}
use Rattle.ground.proofs.Part.{bytes_of}
use Rattle.cursor.proofs.Stepping.{accepting_started, accepting_unstarted}
use Rattle.cursor.proofs.judge.Goals as goal

pub returns-in_err-start : goal.returns-in_err-start
returns-in_err-start c =
    let p = err_from_is_err_and c.from_residual.result c.from_residual.ensures.1 in
    rw (p.1, p.2)
    (sym (accepting_unstarted _ _ (bytes_of c.args.datagram.now (λ i. omega (arith, c.type_inv.datagram i))) _ (sym c.in_err-start.ensures)))

pub returns : goal.returns
returns c =
    c.judge_from.ensures ∙ sym (accepting_started _ _ (bytes_of c.args.datagram.now (λ i. omega (arith, c.type_inv.datagram i))) _ (sym c.in_ok-start.ensures))
