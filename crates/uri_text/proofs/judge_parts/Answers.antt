-- `judge_parts` meets its contract: parts passed and parts left come to the whole (`PartsWalk`).
use mathlib.Core.Path.{sym, ap, ◌∙◌}
use native.Mathlib.Omega.{arith}
use Rattle.std.proofs.lemmas.Result.{err_from_is_err_and}
use Rattle.percent.specs.Step.{kind_of}
use Rattle.uri_text.specs.Judging.{judged_read}
use Rattle.uri_text.proofs.Tallying.{parts_none, end_small, walk_bad, part_small, walk_end, walk_turn}
use Rattle.uri_text.proofs.judge_parts.Goals as goal

pub returns-then-text-eq0 : goal.returns-then-text-eq0
returns-then-text-eq0 c = parts_none (kind_of c.args.kind) c.args.separator _ _ c.args.text.now c.if-text-eq0.true

pub slice_bounds-judge_part-end : goal.slice_bounds-judge_part-end
slice_bounds-judge_part-end c = let h = end_small _ _ _ _ _ _ _ _ c.loop-bytes.invariant _ c.part_end-end.ensures in omega (arith, h)

pub returns-in_err-bytes : goal.returns-in_err-bytes
returns-in_err-bytes c =
    let p = err_from_is_err_and c.from_residual.result c.from_residual.ensures.1 in
    rw (p.1, p.2)
    (walk_bad _ _ _ _ _ _ _ _ c.loop-bytes.invariant _ c.part_end-end.ensures c.in_err-bytes.field-0.0 (sym (ap judged_read c.in_err-bytes.was) ∙ c.judge_part.ensures))

pub overflow_add-bytes : goal.overflow_add-bytes
overflow_add-bytes c =
    let h = part_small _ _ _ _ _ _ _ _ c.loop-bytes.invariant _ c.part_end-end.ensures _ (sym (ap judged_read c.in_ok-bytes.was) ∙ c.judge_part.ensures) in
    let k = end_small _ _ _ _ _ _ _ _ c.loop-bytes.invariant _ c.part_end-end.ensures in
    omega (arith, h, k, c.loop-bytes.invariant.small)

pub returns-then-end-text : goal.returns-then-end-text
returns-then-end-text c = walk_end _ _ _ _ _ _ _ _ c.loop-bytes.invariant _ c.part_end-end.ensures _ (sym (ap judged_read c.in_ok-bytes.was) ∙ c.judge_part.ensures) c.if-end-text.true

pub loop-bytes-preserved : goal.loop-bytes-preserved
loop-bytes-preserved c = walk_turn _ _ _ _ _ _ _ _ c.loop-bytes.invariant _ c.part_end-end.ensures _ (sym (ap judged_read c.in_ok-bytes.was) ∙ c.judge_part.ensures) c.if-end-text.false
