-- `message_at`: the peer, then the body.
use mathlib.Core.Path.{sym, ap, ◌∙◌}
use native.Mathlib.Omega.{arith}
use Rattle.std.proofs.lemmas.Result.{err_from_is_err_and}
use Rattle.stream.specs.Answers.{step_read}
use Rattle.stream.proofs.Walk.{message_none, message_cut, message_body}
use Rattle.stream.proofs.message_at.Goals as goal

pub returns-then-byte_at-ne1 : goal.returns-then-byte_at-ne1
returns-then-byte_at-ne1 c = message_none _ _ _ (λ q. c.if-byte_at-ne1.true (c.byte_at.ensures.is ∙ q))

pub returns-then-stream-at-lt19 : goal.returns-then-stream-at-lt19
returns-then-stream-at-lt19 c = message_cut _ _ _ (sym c.byte_at.ensures.is ∙ c.if-byte_at-ne1.false) (omega arith)

pub returns-in_err-body : goal.returns-in_err-body
returns-in_err-body c =
    let p = err_from_is_err_and c.from_residual.result c.from_residual.ensures.1 in
    rw (p.1, p.2)
    (message_body _ _ _ (sym c.byte_at.ensures.is ∙ c.if-byte_at-ne1.false) (omega arith) _ (sym (ap step_read c.in_err-body.was) ∙ c.body_at.ensures))

pub returns : goal.returns
returns c =
    c.sized.ensures ∙ message_body _ _ _ (sym c.byte_at.ensures.is ∙ c.if-byte_at-ne1.false) (omega arith) _ (sym (ap step_read c.in_ok-body.was) ∙ c.body_at.ensures)
