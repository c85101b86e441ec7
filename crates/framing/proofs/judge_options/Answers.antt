-- `judge_options`: the whole judgement is that of what is left, option by option.
use mathlib.Core.Path.{sym, ◌∙◌}
use Rattle.std.proofs.lemmas.Result.{err_from_is_err_and}
use Rattle.option_reading.proofs.Within.{here}
use Rattle.framing.proofs.Judged.{walk_refused, walk_ended, end_alone, end_well, turn, overflows}
use Rattle.framing.proofs.judge_options.Goals as goal

pub returns-in_err-marked : goal.returns-in_err-marked
returns-in_err-marked c =
    let p = err_from_is_err_and c.from_residual.result c.from_residual.ensures.1 in
    rw (p.1, p.2) (sym (c.loop-marked.invariant ∙ walk_refused _ _ _ _ _ (here _ _ _ _ c.requires c.in_err-marked.ensures)))

pub returns-then-marker_alone : goal.returns-then-marker_alone
returns-then-marker_alone c =
    sym (c.loop-marked.invariant ∙ (walk_ended _ _ _ _ _ _ (here _ _ _ _ c.requires (rw c.in-End.is at c.in_ok-marked.ensures)) ∙ end_alone c.args.rest.now c.in-End.marked c.in-End.payload (sym c.if-marker_alone.ensures)))

pub returns-in-End : goal.returns-in-End
returns-in-End c =
    sym (c.loop-marked.invariant ∙ (walk_ended _ _ _ _ _ _ (here _ _ _ _ c.requires (rw c.in-End.is at c.in_ok-marked.ensures)) ∙ end_well c.args.rest.now c.in-End.marked c.in-End.payload (sym c.if-marker_alone.ensures)))

pub returns-then-count-ge-MAX_OPTIONS : goal.returns-then-count-ge-MAX_OPTIONS
returns-then-count-ge-MAX_OPTIONS c =
    sym (c.loop-marked.invariant ∙ overflows _ _ _ _ _ (here _ _ _ _ c.requires (rw c.in-Option.is at c.in_ok-marked.ensures)) c.if-count-ge-MAX_OPTIONS.true)

pub loop-marked-preserved : goal.loop-marked-preserved
loop-marked-preserved c =
    c.loop-marked.invariant ∙ turn _ _ _ _ _ (here _ _ _ _ c.requires (rw c.in-Option.is at c.in_ok-marked.ensures)) c.if-count-ge-MAX_OPTIONS.false
