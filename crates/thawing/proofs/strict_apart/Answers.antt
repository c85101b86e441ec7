-- `strict_apart`: the bytes that are judged in their chunks are those of the message.
use mathlib.Core.Path.{◌∙◌}
use Rattle.std.proofs.lemmas.Result.{err_from_is_err_and}
use Rattle.thawing.proofs.Apart.{body_judged, apart_refused, apart_given}
use Rattle.thawing.proofs.strict_apart.Goals as goal

pub returns-in_err-judge_chunks : goal.returns-in_err-judge_chunks
returns-in_err-judge_chunks c =
    let p = err_from_is_err_and c.from_residual.result c.from_residual.ensures.1 in
    rw (p.1, p.2) (apart_refused _ _ _ (c.in_err-judge_chunks.ensures ∙ body_judged _ _ _ _ c.requires.0))

pub returns : goal.returns
returns c = apart_given _ _ _ c.requires.0 (c.in_ok-judge_chunks.ensures ∙ body_judged _ _ _ _ c.requires.0)
