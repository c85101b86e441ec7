-- `read_target` meets its contract: the refusals in turn.
use mathlib.Core.Path.{sym, ap, ◌∙◌}
use Rattle.std.proofs.lemmas.Result.{err_from_is_err_and}
use Rattle.uri_text.specs.Tally.{tallied}
use Rattle.target_reading.proofs.Answers.{refusal_shown, fault_shown, reply_long}
use Rattle.target_reading.proofs.read_target.Goals as goal

pub returns-then-edits-gt-MAX_STORE : goal.returns-then-edits-gt-MAX_STORE
returns-then-edits-gt-MAX_STORE c = refusal_shown _ _ _ _ (reply_long _ c.args.start c.args.text.now c.if-edits-gt-MAX_STORE.true)

pub returns-in_err-tally : goal.returns-in_err-tally
returns-in_err-tally c =
    let p = err_from_is_err_and c.from_residual.result c.from_residual.ensures.1 in
    rw (p.1, p.2) (fault_shown _ c.args.start c.args.text.now _ _ c.if-edits-gt-MAX_STORE.false (sym (ap tallied c.in_err-tally.was) ∙ c.judge_text.ensures))
